use Rattle.std.proofs.Common.{◌-◌, length}
use Rattle.pocket_wire.specs.Searches.{IsLookedThrough}
use Rattle.pocket_wire.proofs.block.find_block.Given as goal

abbrev pub invariant-look : goal.invariant-look
invariant-look l = IsLookedThrough l.bytes l.search

abbrev pub decreases-look : goal.decreases-look
decreases-look l = length l.bytes - l.search.at
