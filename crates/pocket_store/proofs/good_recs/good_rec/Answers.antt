use Rattle.std.proofs.Common.{◌≡◌, ◌∙◌, sym}
use Rattle.pocket_keeper.specs.Texts.{rec_key}
use Rattle.pocket_store.proofs.ReadableLemmas.{IsReadAt, good_at, good_only, no_long, no_place, no_rec, read_at}
use Rattle.pocket_store.proofs.good_recs.good_rec.Goals as goal

pub returns-then-not-is_short : goal.returns-then-not-is_short
returns-then-not-is_short c =
    let long = rw c.if-not-is_short.true at c.is_short.ensures in
    no_long c.args.rows.now c.args.collections.now c.args.row.now long

pub returns-in_default-place_of : goal.returns-in_default-place_of
returns-in_default-place_of c =
    let keyed : c.args.row.now.key ≡ rec_key c.in-Some.name.now c.in-Some.field-0-1.now = sym c.as_str.ensures ∙ c.in-Some.ensures.1 in
    no_place c.args.rows.now c.args.collections.now c.args.row.now c.requires.readable c.in-Some.name.now c.in-Some.field-0-1.now c.in-Some.ensures.0 keyed
    c.in_default-place_of.ensures

pub returns-in_default-2 : goal.returns-in_default-2
returns-in_default-2 c =
    let keyed : c.args.row.now.key ≡ rec_key c.in-Some.name.now c.in-Some.field-0-1.now = sym c.as_str.ensures ∙ c.in-Some.ensures.1 in
    let d = c.index-collections-at.result in
    let is : IsReadAt c.args.collections.now c.in-Some.name.now c.in-Some-place_of.at d =
    read_at c.args.collections.now c.in-Some.name.now c.in-Some-place_of.at d c.in-Some-place_of.ensures c.index-collections-at.is in
    no_rec c.args.rows.now c.args.collections.now c.args.row.now c.requires.readable c.in-Some.name.now c.in-Some.field-0-1.now c.in-Some.ensures.0 keyed
    c.in-Some-place_of.at d is (rw c.in_default-2.is at c.in_ok-rec.ensures)

pub returns-then-held : goal.returns-then-held
returns-then-held c =
    let keyed : c.args.row.now.key ≡ rec_key c.in-Some.name.now c.in-Some.field-0-1.now = sym c.as_str.ensures ∙ c.in-Some.ensures.1 in
    let d = c.index-collections-at.result in
    let is : IsReadAt c.args.collections.now c.in-Some.name.now c.in-Some-place_of.at d =
    read_at c.args.collections.now c.in-Some.name.now c.in-Some-place_of.at d c.in-Some-place_of.ensures c.index-collections-at.is in
    let keeps = rw c.in-Some-2.is at c.in_ok-rec.ensures in
    let short = rw c.if-not-is_short.false at c.is_short.ensures in
    let held = rw c.if-held.true at c.in_ok-held.ensures in
    good_at c.args.rows.now c.args.collections.now c.args.row.now c.requires.readable c.in-Some.name.now c.in-Some.field-0-1.now c.in-Some.ensures.0 keyed
    c.in-Some-place_of.at d is c.in-Some-2.rec keeps (rw (c.as_slice.ensures, c.as_slice-2.ensures) at held) short

pub returns-else-held : goal.returns-else-held
returns-else-held c =
    let keyed : c.args.row.now.key ≡ rec_key c.in-Some.name.now c.in-Some.field-0-1.now = sym c.as_str.ensures ∙ c.in-Some.ensures.1 in
    let d = c.index-collections-at.result in
    let is : IsReadAt c.args.collections.now c.in-Some.name.now c.in-Some-place_of.at d =
    read_at c.args.collections.now c.in-Some.name.now c.in-Some-place_of.at d c.in-Some-place_of.ensures c.index-collections-at.is in
    let keeps = rw c.in-Some-2.is at c.in_ok-rec.ensures in
    let lacks = rw c.if-held.false at c.in_ok-held.ensures in
    let lacks_named = rw (c.as_slice.ensures, c.as_slice-2.ensures) at lacks in
    λ h.
    let g = good_only c.args.rows.now c.args.collections.now c.args.row.now c.requires.readable c.in-Some.name.now c.in-Some.field-0-1.now c.in-Some.ensures.0 keyed
    c.in-Some-place_of.at d is c.in-Some-2.rec keeps h in
    lacks_named g.held
