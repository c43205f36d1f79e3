use Rattle.std.proofs.Common.{length}
use Rattle.pocket_ops.proofs.row_lengths.+are_apart.Given as goal

abbrev pub decreases-are_apart : goal.decreases-are_apart
decreases-are_apart l = length l.fields.now
