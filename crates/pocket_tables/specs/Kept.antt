-- What tables hold: a world, and places that are prepared for worlds to come.
use Rattle.std.specs.Prelude.{◌+◌, ◌≤◌, ℕ, List, length}
use Rattle.std.specs.Option.{option_map_or}
use Rattle.pocket_types.specs.Within.{collections_of}
use Rattle.pocket_types.specs.declared.deltas.Delta.{Delta}
use Rattle.pocket_types.specs.declared.world.World.{World}
use Rattle.pocket_tables.specs.Deltas.{rec_changes, shelf_changes}
use Rattle.pocket_tables.specs.Keyed.{find_key, places_wanted}
use Rattle.pocket_tables.specs.Worlds.{recs_at}

-- for how many records of a name there is a place
pub record Room : Type 0 where
  pub name : List ℕ
  pub places : ℕ

-- for how many collections, and for how many records of each name, there is a place
pub record Rooms : Type 0 where
  pub collections : ℕ
  pub records : List Room

-- a world, and the places that are prepared
pub record Kept : Type 0 where
  pub world : World
  pub rooms : Rooms

abbrev pub room_name : Room → List ℕ
room_name r = r.name

-- the places for records of a name
abbrev pub places_at : List Room → List ℕ → ℕ
places_at rooms name = option_map_or (λ r. r.places) (find_key room_name name rooms) 0

-- a place for all that stands in a world, and one more for each thing that a delta puts
pub record HasPlaces (w : World) (rooms : Rooms) (d : Delta) : Type 0 where
  pub collections : length (collections_of w) + places_wanted (shelf_changes d.shelves) ≤ rooms.collections
  pub records : (name : List ℕ) → length (recs_at w name) + places_wanted (rec_changes d.recs name) ≤ places_at rooms.records name

-- a delta can be applied without memory
unfoldable pub IsReady : Kept → Delta → Type 0
IsReady kept d = HasPlaces kept.world kept.rooms d

-- whatever delta was ready in whatever world is still ready there
abbrev pub KeepsReady : Kept → Kept → Type 0
KeepsReady old new = (w : World) (d : Delta) → IsReady (record old { world = w }) d → IsReady (record new { world = w }) d
