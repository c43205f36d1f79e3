-- The fields of tables, and what they stand for.
use Rattle.std.specs.Prelude.{◌≡◌, ℕ, List, [], map, None, vec_capacity}
use Rattle.pocket_types.specs.Order.{Rises}
use Rattle.pocket_types.specs.declared.records.Collection.{Collection}
use Rattle.pocket_types.specs.declared.world.World.{World}
use Rattle.pocket_tables.specs.declared.drawers.Drawer.{Drawer}
use Rattle.pocket_tables.specs.declared.tables.Tables.TheInside.{Inside}
use Rattle.pocket_tables.specs.Drawers.{drawer_name, recs_in, room_of}
use Rattle.pocket_tables.specs.Keyed.{find_key}
use Rattle.pocket_tables.specs.Kept.{Kept}
use Rattle.pocket_tables.specs.Tallies.{TellAll}
use Rattle.pocket_tables.specs.Worlds.{IsTabled, name_of}

-- collections, each with the records of its name
abbrev pub world_of : List Collection → List Drawer → World
world_of cs drawers = record { shelves = map (λ c. record { collection = c; recs = recs_in drawers c.name }) cs }

-- what contracts see of tables
abbrev pub view_of : Inside → Kept
view_of t = record {
  world = world_of t.collections.items t.drawers.items;
  rooms = record { collections = vec_capacity t.collections; records = map room_of t.drawers.items };
}

-- the lists rise, and a name without a collection has no records
pub record AreTables (cs : List Collection) (drawers : List Drawer) : Type 0 where
  pub tabled : IsTabled (world_of cs drawers)
  pub rises : Rises name_of cs
  pub names : Rises drawer_name drawers
  pub gone : (name : List ℕ) → find_key name_of name cs ≡ None → recs_in drawers name ≡ []

-- they are tables, and their totals are those of all records
pub record AreKept (t : Inside) : Type 0 where
  pub tables : AreTables t.collections.items t.drawers.items
  pub totals : TellAll t.totals t.collections.items t.drawers.items
