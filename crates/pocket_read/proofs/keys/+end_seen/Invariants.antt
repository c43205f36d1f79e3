use Rattle.std.proofs.Common.{length}
use Rattle.pocket_read.proofs.keys.+end_seen.Given as goal

abbrev pub decreases-end_seen : goal.decreases-end_seen
decreases-end_seen g l = length l.path.now
