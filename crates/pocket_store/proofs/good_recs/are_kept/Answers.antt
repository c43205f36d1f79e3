use Rattle.std.proofs.Common.{ℕ, List}
use Rattle.pocket_keeper.specs.Texts.{rec_key}
use Rattle.pocket_store.specs.Stores.{HasKey}
use Rattle.pocket_store.proofs.ListLemmas.{all_more, all_tried, not_all}
use Rattle.pocket_store.proofs.good_recs.are_kept.Goals as goal

pub returns-then-not-branch : goal.returns-then-not-branch
returns-then-not-branch c =
    let lacks = rw c.if-not-branch.true at c.in_ok-has_rec.ensures in
    let lacks_named = rw (c.as_str.ensures.text, c.as_str-in-loop-id.ensures) at lacks in
    not_all (λ (id : List ℕ). HasKey c.args.rows.now (rec_key c.args.target.now id)) c.args.ids.now c.loop-id.id-index c.id-item.result c.loop-id-test.true c.id-item.is lacks_named

pub loop-id-preserved : goal.loop-id-preserved
loop-id-preserved c =
    let has = rw c.if-not-branch.false at c.in_ok-has_rec.ensures in
    let has_named = rw (c.as_str.ensures.text, c.as_str-in-loop-id.ensures) at has in
    all_more (λ (id : List ℕ). HasKey c.args.rows.now (rec_key c.args.target.now id)) c.args.ids.now c.loop-id.id-index c.id-item.result c.loop-id-test.true c.id-item.is has_named
    c.loop-id.invariant

pub returns : goal.returns
returns c =
    all_tried (λ (id : List ℕ). HasKey c.args.rows.now (rec_key c.args.target.now id)) c.args.ids.now c.loop-id.id-index c.loop-id-test.false c.loop-id.invariant
