use Rattle.std.proofs.Common.{sym, subst}
use Rattle.std.specs.List.{sum_by}
use Rattle.pocket_ops.specs.Lengths.{HasOwnNames, row_len}
use Rattle.pocket_tables.specs.Drawers.{recs_in}
use Rattle.pocket_tables.specs.Tallies.{Tell, one_each}
use Rattle.pocket_tables.proofs.TallyLemmas.{told_all, told_more}
use Rattle.pocket_tables.proofs.tallies.tally.Goals as goal

pub of_recs-requires : goal.of_recs-requires
of_recs-requires c = subst HasOwnNames (sym c.collection-item.is) (c.requires.own c.loop-collection.collection-index c.collection-item.result c.loop-collection-test.true)

pub loop-collection-preserved : goal.loop-collection-preserved
loop-collection-preserved c =
    let recs = recs_in c.args.drawers.now in
    let item = c.collection-item.result in
    told_more (λ k. sum_by (one_each k) (recs k.name)) (λ k. sum_by (row_len k) (recs k.name)) c.args.collections.now c.loop-collection.collection-index item
    c.loop-collection.totals c.of_recs.result c.plus-totals.result c.loop-collection-test.true c.collection-item.is c.loop-collection.invariant
    (subst (λ l. Tell c.of_recs.result (sum_by (one_each item) l) (sum_by (row_len item) l)) c.recs_under-recs.ensures c.of_recs.ensures)
    c.plus-totals.ensures.records c.plus-totals.ensures.bytes

pub returns : goal.returns
returns c =
    let recs = recs_in c.args.drawers.now in
    told_all (λ k. sum_by (one_each k) (recs k.name)) (λ k. sum_by (row_len k) (recs k.name)) c.args.collections.now c.loop-collection.collection-index
    c.loop-collection.totals c.loop-collection-test.false c.loop-collection.invariant
