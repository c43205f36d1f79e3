-- What a guarded scene stands for.
use Rattle.std.specs.Prelude.{Bool, Option}
use Rattle.pocket_types.specs.World.{lent_world}
use Rattle.pocket_types.specs.declared.names.Name.{Name}
use Rattle.pocket_types.specs.declared.records.Cell.{Cell}
use Rattle.pocket_types.specs.declared.records.Field.{Field}
use Rattle.pocket_types.specs.declared.records.Rec.{Rec}
use Rattle.pocket_types.specs.declared.world.Shelf.{Shelf}
use Rattle.pocket_types.specs.declared.world.World.{World}
use Rattle.pocket_meaning.specs.Sights.{Sight}
use Rattle.pocket_plan.specs.Cutting.{admits, admitted_shelf, admitted_world}
use Rattle.pocket_plan.specs.Guarding.{open_sent_field, guarded_sight}
use Rattle.pocket_plan.specs.declared.guarded.Guarded.{Guarded}

-- the whole world behind the guard
abbrev pub world_behind : Guarded → World
world_behind g = lent_world g.scene.shelves.now

-- whether the guard admits a record
abbrev pub is_admitted : Guarded → Name → Rec → Bool
is_admitted g = admits (world_behind g) g.guard.now g.scene.ask.now

-- a shelf with the admitted records
abbrev pub admitted_of : Guarded → Shelf → Shelf
admitted_of g = admitted_shelf (world_behind g) g.guard.now g.scene.ask.now

-- the world with the admitted records
abbrev pub admitted_under : Guarded → World
admitted_under g = admitted_world (world_behind g) g.guard.now g.scene.ask.now

-- the sent fields that aren't hidden
abbrev pub sent_under : Guarded → Name → Option (Field × Cell)
sent_under g = open_sent_field (world_behind g) g.scene.home.now g.scene.ask.now.body

-- what is seen in a guarded scene
abbrev pub guarded_sight_of : Guarded → Sight
guarded_sight_of g = guarded_sight (world_behind g) g.guard.now g.scene.ask.now g.scene.home.now g.scene.rec.now
