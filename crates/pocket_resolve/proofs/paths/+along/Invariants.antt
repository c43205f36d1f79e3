use Rattle.std.proofs.Common.{length}
use Rattle.pocket_resolve.proofs.paths.+along.Given as goal

abbrev pub decreases-along : goal.decreases-along
decreases-along l = length l.parts.now
