-- The records of each name, and their room.
use Rattle.std.specs.Prelude.{◌≡◌, ◌+◌, ◌≤◌, ℕ, List, [], map, length, All, IsSome, vec_capacity}
use Rattle.std.specs.Option.{option_map_or}
use Rattle.pocket_types.specs.Order.{Rises}
use Rattle.pocket_types.specs.declared.deltas.RecChange.{RecChange}
use Rattle.pocket_types.specs.declared.records.Rec.{Rec}
use Rattle.pocket_tables.specs.declared.drawers.Drawer.{Drawer}
use Rattle.pocket_tables.specs.Deltas.{rec_changes}
use Rattle.pocket_tables.specs.Keyed.{find_key, places_wanted}
use Rattle.pocket_tables.specs.Kept.{Room, places_at}
use Rattle.pocket_tables.specs.Worlds.{id_of}

abbrev pub drawer_name : Drawer → List ℕ
drawer_name d = d.name

-- the records of a name; none where it has no drawer
abbrev pub recs_in : List Drawer → List ℕ → List Rec
recs_in drawers name = option_map_or (λ d. d.recs.items) (find_key drawer_name name drawers) []

-- the room of a drawer
abbrev pub room_of : Drawer → Room
room_of d = record { name = d.name; places = vec_capacity d.recs }

-- drawers rise by name, and the records of each by id
pub record AreRising (drawers : List Drawer) : Type 0 where
  pub names : Rises drawer_name drawers
  pub ids : (name : List ℕ) → Rises id_of (recs_in drawers name)

-- a place for all records, and one more for each that is put
abbrev pub HasRecPlaces : List Drawer → List RecChange → Type 0
HasRecPlaces drawers changes =
    (name : List ℕ) → length (recs_in drawers name) + places_wanted (rec_changes changes name) ≤ places_at (map room_of drawers) name

-- a name has a drawer
abbrev pub HasDrawer : List Drawer → List ℕ → Type 0
HasDrawer drawers name = IsSome (find_key drawer_name name drawers)

-- each name under which a record is put has a drawer
abbrev pub HaveDrawers : List Drawer → List RecChange → Type 0
HaveDrawers drawers changes = All (λ c. IsSome c.after → HasDrawer drawers c.collection) changes

-- drawers with the same records, no fewer places, and no name less
pub record AreNoSmaller (old new : List Drawer) : Type 0 where
  pub rising : Rises drawer_name new
  pub recs : (name : List ℕ) → recs_in new name ≡ recs_in old name
  pub places : (name : List ℕ) → places_at (map room_of old) name ≤ places_at (map room_of new) name
  pub names : (name : List ℕ) → HasDrawer old name → HasDrawer new name
