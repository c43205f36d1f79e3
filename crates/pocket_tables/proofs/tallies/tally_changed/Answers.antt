use Rattle.pocket_ops.specs.Lengths.{row_len}
use Rattle.pocket_tables.specs.Drawers.{recs_in}
use Rattle.pocket_tables.specs.Tallies.{one_each, standing_weighs}
use Rattle.pocket_tables.proofs.TallyLemmas.{told_all, told_more}
use Rattle.pocket_tables.proofs.tallies.tally_changed.Goals as goal

pub loop-change-preserved : goal.loop-change-preserved
loop-change-preserved c =
    let cs = c.args.collections.now in
    let recs = recs_in c.args.drawers.now in
    told_more (standing_weighs one_each cs recs) (standing_weighs row_len cs recs) c.args.changes.now c.loop-change.change-index c.change-item.result
    c.loop-change.totals c.of_standing.result c.plus-totals.result c.loop-change-test.true c.change-item.is c.loop-change.invariant
    c.of_standing.ensures c.plus-totals.ensures.records c.plus-totals.ensures.bytes

pub returns : goal.returns
returns c =
    let cs = c.args.collections.now in
    let recs = recs_in c.args.drawers.now in
    told_all (standing_weighs one_each cs recs) (standing_weighs row_len cs recs) c.args.changes.now c.loop-change.change-index
    c.loop-change.totals c.loop-change-test.false c.loop-change.invariant
