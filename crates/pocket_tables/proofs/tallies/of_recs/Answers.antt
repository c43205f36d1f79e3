use Rattle.pocket_ops.specs.Lengths.{row_len}
use Rattle.pocket_tables.specs.Tallies.{one_each}
use Rattle.pocket_tables.proofs.TallyLemmas.{told_all, told_more}
use Rattle.pocket_tables.proofs.tallies.of_recs.Goals as goal

pub loop-rec-preserved : goal.loop-rec-preserved
loop-rec-preserved c =
    told_more (one_each c.args.collection.now) (row_len c.args.collection.now) c.args.recs.now c.loop-rec.rec-index c.rec-item.result c.loop-rec.totals c.of_one.result c.plus-totals.result
    c.loop-rec-test.true c.rec-item.is c.loop-rec.invariant c.of_one.ensures c.plus-totals.ensures.records c.plus-totals.ensures.bytes

pub returns : goal.returns
returns c =
    told_all (one_each c.args.collection.now) (row_len c.args.collection.now) c.args.recs.now c.loop-rec.rec-index c.loop-rec.totals c.loop-rec-test.false c.loop-rec.invariant
