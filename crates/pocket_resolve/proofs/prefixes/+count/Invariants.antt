use Rattle.std.proofs.Common.{length}
use Rattle.pocket_resolve.proofs.prefixes.+count.Given as goal

-- proposed from what the function passes where it calls itself
abbrev pub decreases-count : goal.decreases-count
decreases-count l = length l.prefixes.now
