use Rattle.std.proofs.Common.{take}
use Rattle.pocket_ops.specs.Lengths.{row_len}
use Rattle.pocket_tables.specs.Drawers.{recs_in}
use Rattle.pocket_tables.specs.Tallies.{Tell, changed_weigh, one_each}
use Rattle.pocket_tables.proofs.tallies.tally_changed.Given as goal

abbrev pub invariant-loop-change : goal.invariant-loop-change
invariant-loop-change l =
    Tell l.totals (changed_weigh one_each l.collections (recs_in l.drawers) (take l.change-index l.changes)) (changed_weigh row_len l.collections (recs_in l.drawers) (take l.change-index l.changes))
