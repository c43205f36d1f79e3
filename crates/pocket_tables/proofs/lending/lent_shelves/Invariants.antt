use Rattle.std.proofs.Common.{◌≡◌, take}
use Rattle.pocket_tables.specs.Inside.{world_of}
use Rattle.pocket_types.specs.World.{lent_world}
use Rattle.pocket_tables.proofs.lending.lent_shelves.Given as goal

abbrev pub invariant-loop-collection : goal.invariant-loop-collection
invariant-loop-collection l = lent_world l.shelves.items ≡ world_of (take l.collection-index l.collections) l.drawers
