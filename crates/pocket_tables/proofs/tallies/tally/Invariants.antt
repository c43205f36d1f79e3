use Rattle.std.proofs.Common.{take}
use Rattle.pocket_ops.specs.Lengths.{row_len}
use Rattle.pocket_tables.specs.Drawers.{recs_in}
use Rattle.pocket_tables.specs.Tallies.{Tell, all_weigh, one_each}
use Rattle.pocket_tables.proofs.tallies.tally.Given as goal

abbrev pub invariant-loop-collection : goal.invariant-loop-collection
invariant-loop-collection l =
    Tell l.totals (all_weigh one_each (take l.collection-index l.collections) (recs_in l.drawers)) (all_weigh row_len (take l.collection-index l.collections) (recs_in l.drawers))
