use Rattle.std.proofs.Common.{take}
use Rattle.std.specs.List.{sum_by}
use Rattle.pocket_ops.specs.Lengths.{row_len}
use Rattle.pocket_tables.specs.Tallies.{Tell, one_each}
use Rattle.pocket_tables.proofs.tallies.of_recs.Given as goal

abbrev pub invariant-loop-rec : goal.invariant-loop-rec
invariant-loop-rec l = Tell l.totals (sum_by (one_each l.collection) (take l.rec-index l.recs)) (sum_by (row_len l.collection) (take l.rec-index l.recs))
