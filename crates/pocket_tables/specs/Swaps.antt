-- All changes of a delta made in place: what they need, and what they leave.
use Rattle.std.specs.Prelude.{◌≡◌, ◌+◌, ◌≤◌, ℕ, List, map, length, IfSome, All, if◌then◌else◌}
use Rattle.std.specs.Str.{bytes_eq}
use Rattle.pocket_types.specs.Order.{Rises}
use Rattle.pocket_types.specs.World.{rec_of}
use Rattle.pocket_types.specs.declared.deltas.Delta.{Delta}
use Rattle.pocket_types.specs.declared.deltas.RecChange.{RecChange}
use Rattle.pocket_types.specs.declared.records.Collection.{Collection}
use Rattle.pocket_tables.specs.declared.drawers.Drawer.{Drawer}
use Rattle.pocket_tables.specs.Deltas.{rec_back, rec_changes, shelf_back, shelf_changes}
use Rattle.pocket_tables.specs.Drawers.{AreRising, HasRecPlaces, drawer_name, recs_in, room_of}
use Rattle.pocket_tables.specs.Keyed.{AtDistinctKeys, find_key, places_wanted, put_all, put_at}
use Rattle.pocket_tables.specs.Worlds.{id_of, name_of}

-- one record put or cut in the drawer of its name, and all else as it was
pub record IsSwapped (old new : List Drawer) (c : RecChange) : Type 0 where
  pub recs : (name : List ℕ) → recs_in new name ≡ (if bytes_eq c.collection name then put_at id_of c.id c.after (recs_in old name) else recs_in old name)
  pub rooms : map room_of new ≡ map room_of old
  pub names : Rises drawer_name new

-- the lists rise, the changes are at distinct keys and put what bears these, and there is room
pub record CanSwap (cs : List Collection) (drawers : List Drawer) (places : ℕ) (d : Delta) : Type 0 where
  pub rises : Rises name_of cs
  pub rising : AreRising drawers
  pub names : AtDistinctKeys (shelf_changes d.shelves)
  pub ids : (name : List ℕ) → AtDistinctKeys (rec_changes d.recs name)
  pub named : All (λ c. IfSome c.after (λ k. k.name ≡ c.name)) d.shelves
  pub numbered : All (λ c. IfSome c.after (λ r. r.id ≡ c.id)) d.recs
  pub shelf_room : length cs + places_wanted (shelf_changes d.shelves) ≤ places
  pub rec_room : HasRecPlaces drawers d.recs

-- the changes are made, lead back to what stood there, and the room is as it was
pub record AreSwapped (cs new_cs : List Collection) (drawers new_drawers : List Drawer) (d back : Delta) : Type 0 where
  pub collections : new_cs ≡ put_all name_of (shelf_changes d.shelves) cs
  pub recs : (name : List ℕ) → recs_in new_drawers name ≡ put_all id_of (rec_changes d.recs name) (recs_in drawers name)
  pub rooms : map room_of new_drawers ≡ map room_of drawers
  pub names : Rises drawer_name new_drawers
  pub shelves_back : back.shelves ≡ map (shelf_back (λ name. find_key name_of name cs)) d.shelves
  pub recs_back : back.recs ≡ map (rec_back (λ name id. rec_of id (recs_in drawers name))) d.recs
