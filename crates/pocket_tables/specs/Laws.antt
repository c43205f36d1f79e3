-- What follows from the definitions.
use Rattle.std.specs.Prelude.{◌≡◌, ◌⊎◌, ℕ, false, List, [], ◌∷◌, Option, Some, All, Contains, IfSome, IsTrue, MatchOption, if◌then◌else◌}
use Rattle.std.specs.List.{AllZip}
use Rattle.std.specs.Str.{bytes_eq}
use Rattle.pocket_types.specs.Order.{IsBefore, Rises}
use Rattle.pocket_types.specs.Sound.{AllFit, IsSoundCollection, IsSoundRec}
use Rattle.pocket_types.specs.World.{shelf_named}
use Rattle.pocket_types.specs.declared.deltas.Delta.{Delta}
use Rattle.pocket_types.specs.declared.deltas.RecChange.{RecChange}
use Rattle.pocket_types.specs.declared.ids.Id.{Id}
use Rattle.pocket_types.specs.declared.names.Name.{Name}
use Rattle.pocket_types.specs.declared.records.Collection.{Collection}
use Rattle.pocket_types.specs.declared.records.Rec.{Rec}
use Rattle.pocket_types.specs.declared.world.Shelf.{Shelf}
use Rattle.pocket_types.specs.declared.world.World.{World}
use Rattle.pocket_ops.specs.Lengths.{HasOwnNames}
use Rattle.pocket_tables.specs.Deltas.{FitsWorld, KeepsShape, inverse, rec_changes, shelf_changes, world_after}
use Rattle.pocket_tables.specs.Keyed.{AtDistinctKeys, Change}
use Rattle.pocket_tables.specs.Reads.{first_above, is_above}
use Rattle.pocket_tables.specs.Worlds.{HasShape, IsTabled, MayStand, collection_at, id_of, rec_at, recs_at, shapes_of, shelf_name}

-- ---- deltas

-- what stands at a key after changes: what the change at it says, or what stood there before
abbrev pub after_changes : {T : Type 0} → List ℕ → List (Change T) → Option T → Option T
after_changes k [] before = before
after_changes k (c ∷ changes) before = if bytes_eq c.0 k then c.1 else after_changes k changes before

-- the world after a delta can be put into tables, and each look-up there gives what the delta says, or else what it gave before
pub record IsMadeAtOnce (d : Delta) (w : World) : Type 0 where
  pub tabled : IsTabled (world_after d w)
  pub collections : (name : List ℕ) → collection_at (world_after d w) name ≡ after_changes name (shelf_changes d.shelves) (collection_at w name)
  pub recs : (name id : List ℕ) → rec_at (world_after d w) name id ≡ after_changes id (rec_changes d.recs name) (rec_at w name id)

abbrev pub DeltasAreMadeAtOnce : Type 0
DeltasAreMadeAtOnce = (d : Delta) (w : World) → IsTabled w → FitsWorld d w → IsMadeAtOnce d w

-- the inverse fits the world after the delta, and leads back from there
pub record IsUndone (d : Delta) (w : World) : Type 0 where
  pub fits : FitsWorld (inverse d w) (world_after d w)
  pub back : world_after (inverse d w) (world_after d w) ≡ w

abbrev pub InversesUndo : Type 0
InversesUndo = (d : Delta) (w : World) → IsTabled w → FitsWorld d w → IsUndone d w

-- a delta that changes records alone: each stands in it once, and what is put bears its id and has the shape of its collection
pub record ChangesRecords (d : Delta) (w : World) : Type 0 where
  pub shelves : d.shelves ≡ []
  pub ids : (name : List ℕ) → AtDistinctKeys (rec_changes d.recs name)
  pub numbered : All (λ c. IfSome c.after (λ r. r.id ≡ c.id)) d.recs
  pub shaped : All (λ c. IfSome c.after (MayStand (collection_at w c.collection))) d.recs

-- such a delta fits
abbrev pub RecordChangesFit : Type 0
RecordChangesFit = (d : Delta) (w : World) → ChangesRecords d w → FitsWorld d w

-- a change cuts a record that stands under a name, or puts one in its place, which may stand where this collection does
pub record IsChangeOf (name : Name) (standing : Option Collection) (r : Rec) (c : RecChange) : Type 0 where
  pub collection : c.collection ≡ name
  pub id : c.id ≡ r.id
  pub after : IfSome c.after (λ s. (s.id ≡ r.id) × MayStand standing s)

-- A delta that puts a collection at a name, or cuts the one that stands there. What is put bears the name, and its fields have names
-- of their own. Either there was no collection or it stays with fields of the same shapes, and no record changes. Or each record
-- that stands under the name is changed, in their order: it is cut, or put in the shape of the collection that is put.
pub record ChangesCollection (name : Name) (after : Option Collection) (d : Delta) (w : World) : Type 0 where
  pub shelves : d.shelves ≡ record { name = name; after = after } ∷ []
  pub named : IfSome after (λ c. c.name ≡ name)
  pub own : IfSome after HasOwnNames
  pub recs : KeepsShape (collection_at w name) after × (d.recs ≡ []) ⊎ AllZip (IsChangeOf name after) (recs_at w name) d.recs

-- such a delta fits
abbrev pub CollectionChangesFit : Type 0
CollectionChangesFit = (name : Name) (after : Option Collection) (d : Delta) (w : World) → IsTabled w → ChangesCollection name after d w → FitsWorld d w

-- ---- worlds

-- two worlds in tables in which each look-up gives the same are one
abbrev pub LookUpsDecide : Type 0
LookUpsDecide = (v w : World) → IsTabled v → IsTabled w
    → ((name : List ℕ) → collection_at v name ≡ collection_at w name) → ((name id : List ℕ) → rec_at v name id ≡ rec_at w name id) → v ≡ w

-- each shelf of a world in tables is the one that is found by its name
abbrev pub ShelvesAreFound : Type 0
ShelvesAreFound = (w : World) → IsTabled w → All (λ s. shelf_named (shelf_name s) w.shelves ≡ Some s) w.shelves

-- cells that fit their fields in a sound record have the shape of their fields
abbrev pub FittingCellsHaveShape : Type 0
FittingCellsHaveShape = (c : Collection) (r : Rec) → AllFit c.fields r.cells → HasShape (shapes_of c) r

-- a sound collection with sound records of its own, which rise by id
pub record HasSoundParts (s : Shelf) : Type 0 where
  pub collection : IsSoundCollection s.collection
  pub recs : All (IsSoundRec s.collection) s.recs
  pub rising : Rises id_of s.recs

-- shelves of sound collections and records can be put into tables
abbrev pub SoundShelvesAreTabled : Type 0
SoundShelvesAreTabled = (w : World) → Rises shelf_name w.shelves → All HasSoundParts w.shelves → IsTabled w

-- ---- the next record

-- a record is there, its id is above, and it stands before each other one above
pub record IsLeastAbove (after : Option Id) (recs : List Rec) (r : Rec) : Type 0 where
  pub there : Contains recs r
  pub above : IsTrue (is_above after r)
  pub least : All (λ s. IsTrue (is_above after s) → (s ≡ r) ⊎ IsBefore r.id s.id) recs

-- of records that rise by id, the first above is the least, and there is none exactly where none is above
abbrev pub FirstIsLeast : Type 0
FirstIsLeast = (after : Option Id) (recs : List Rec) → Rises id_of recs
    → MatchOption (first_above after recs) (All (λ s. is_above after s ≡ false) recs) (IsLeastAbove after recs)
