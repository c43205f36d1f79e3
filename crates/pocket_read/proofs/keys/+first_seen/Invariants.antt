use Rattle.std.proofs.Common.{length}
use Rattle.pocket_read.proofs.keys.+first_seen.Given as goal

abbrev pub decreases-first_seen : goal.decreases-first_seen
decreases-first_seen g l = length l.ids.now
