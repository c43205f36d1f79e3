use Rattle.std.proofs.Common.{List, sym, ◌∙◌, subst}
use Rattle.pocket_keeper.specs.declared.tokens.Token.{Token}
use Rattle.pocket_store.specs.Drafts.{IsWhole}
use Rattle.pocket_store.proofs.ShelfLemmas.{store_from}
use Rattle.pocket_store.proofs.SoundLemmas.{sound_from}
use Rattle.pocket_store.proofs.stores.stored_of.Goals as goal

pub returns-clause-ok : goal.returns-clause-ok
returns-clause-ok c =
    let rows = c.args.rows.now in
    let cs = c.in_ok-collections.collections.items in
    let recs = c.read_rows.new.recs.items in
    let readable = rw c.as_slice-rows.ensures at c.in_ok-collections.ensures in
    let whole = rw (c.as_slice-rows.ensures, c.deref-2.ensures.value) at c.in_ok-tokens.ensures in
    store_from rows cs recs c.from_vec-2.result c.from_vec.result readable
    (subst (λ (ts : List Token). IsWhole rows cs recs ts) (sym c.from_vec-2.ensures) whole) (c.from_vec.ensures ∙ c.in_ok-shelves.ensures)

pub returns-clause-sound : goal.returns-clause-sound
returns-clause-sound c =
    let rows = c.args.rows.now in
    let cs = c.in_ok-collections.collections.items in
    let recs = c.read_rows.new.recs.items in
    let readable = rw c.as_slice-rows.ensures at c.in_ok-collections.ensures in
    let whole = rw (c.as_slice-rows.ensures, c.deref-2.ensures.value) at c.in_ok-tokens.ensures in
    sound_from rows cs recs c.from_vec-2.result c.from_vec.result c.requires readable
    (subst (λ (ts : List Token). IsWhole rows cs recs ts) (sym c.from_vec-2.ensures) whole) (c.from_vec.ensures ∙ c.in_ok-shelves.ensures)
