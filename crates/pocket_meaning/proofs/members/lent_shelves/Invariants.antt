use Rattle.std.proofs.Common.{◌≡◌, map, take}
use Rattle.pocket_types.specs.World.{lent_shelf}
use Rattle.pocket_meaning.proofs.members.lent_shelves.Given as goal

abbrev pub invariant-loop-shelf : goal.invariant-loop-shelf
invariant-loop-shelf l = map lent_shelf l.shelves.items ≡ take l.shelf-index l.shelf-items
