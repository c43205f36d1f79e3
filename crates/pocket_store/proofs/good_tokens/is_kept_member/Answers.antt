use Rattle.std.proofs.Common.{ℕ, List, Bool, ◌∙◌, ap, subst}
use Rattle.std.specs.Prelude.{MatchBool}
use Rattle.pocket_types.specs.declared.records.Collection.{Collection}
use Rattle.pocket_keeper.specs.Texts.{rec_key}
use Rattle.pocket_store.specs.Reading.{IsPlaceOf}
use Rattle.pocket_store.specs.Stores.{HasKey, IsKeptMember}
use Rattle.pocket_store.proofs.ListLemmas.{ok_map}
use Rattle.pocket_store.proofs.ReadableLemmas.{IsReadAt, member_by, no_auth, read_at}
use Rattle.pocket_store.proofs.good_tokens.is_kept_member.Goals as goal

pub returns-then-not-collections-at : goal.returns-then-not-collections-at
returns-then-not-collections-at c =
    let place = subst (λ (n : List ℕ). IsPlaceOf c.args.collections.now n c.in-Some.at) c.as_str.ensures.text c.in-Some.ensures in
    let is : IsReadAt c.args.collections.now c.args.name.now c.in-Some.at c.index-collections-at.result =
    read_at c.args.collections.now c.args.name.now c.in-Some.at c.index-collections-at.result place c.index-collections-at.is in
    no_auth c.args.rows.now c.args.collections.now c.args.name.now c.args.id c.requires.readable c.in-Some.at c.index-collections-at.result is
    (ap (λ (x : Collection). x.is_auth) c.index-collections-at.is ∙ c.if-not-collections-at.true)

pub returns : goal.returns
returns c =
    let rows = c.args.rows.now in
    let cs = c.args.collections.now in
    let name = c.args.name.now in
    let id = c.args.id in
    let place = subst (λ (n : List ℕ). IsPlaceOf c.args.collections.now n c.in-Some.at) c.as_str.ensures.text c.in-Some.ensures in
    let is : IsReadAt c.args.collections.now c.args.name.now c.in-Some.at c.index-collections-at.result =
    read_at c.args.collections.now c.args.name.now c.in-Some.at c.index-collections-at.result place c.index-collections-at.is in
    ok_map (λ (b : Bool). MatchBool b (HasKey rows (rec_key name id)) (¬ HasKey rows (rec_key name id)))
    (λ (b : Bool). MatchBool b (IsKeptMember rows cs name id) (¬ IsKeptMember rows cs name id))
    c.has_rec.result
    (member_by rows cs name id c.requires.readable c.in-Some.at c.index-collections-at.result is
    (ap (λ (x : Collection). x.is_auth) c.index-collections-at.is ∙ c.if-not-collections-at.false))
    (rw (c.as_str-2.ensures.text, c.as_str-3.ensures) at c.has_rec.ensures)
