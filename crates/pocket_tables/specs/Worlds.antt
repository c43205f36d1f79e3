-- What stands in a world, and which worlds can be put into tables.
use Rattle.std.specs.Prelude.{◌≡◌, ◌≤◌, ℕ, Bool, false, List, [], map, length, Option, Some, None, All}
use Rattle.std.specs.List.{AllZip}
use Rattle.std.specs.Option.{option_map_or}
use Rattle.pocket_types.specs.Kinds.{is_multiple}
use Rattle.pocket_types.specs.Order.{Rises}
use Rattle.pocket_types.specs.Within.{collections_of}
use Rattle.pocket_types.specs.World.{shelf_named, rec_of}
use Rattle.pocket_types.specs.declared.ids.Id.{Id}
use Rattle.pocket_types.specs.declared.names.Name.{Name}
use Rattle.pocket_types.specs.declared.records.Cell.{Cell}
use Rattle.pocket_types.specs.declared.records.Cell.TheVariants as cell
use Rattle.pocket_types.specs.declared.records.Collection.{Collection}
use Rattle.pocket_types.specs.declared.records.Field.{Field}
use Rattle.pocket_types.specs.declared.records.Kind.{Kind}
use Rattle.pocket_types.specs.declared.records.Kind.TheVariants as kind
use Rattle.pocket_types.specs.declared.records.Rec.{Rec}
use Rattle.pocket_types.specs.declared.world.Shelf.{Shelf}
use Rattle.pocket_types.specs.declared.world.World.{World}
use Rattle.pocket_ops.specs.Cells.{items_of}
use Rattle.pocket_ops.specs.Lengths.{HasOwnNames}
use Rattle.pocket_tables.specs.Keyed.{find_key}

-- ---- look-ups

-- the keys of collections, records and shelves
abbrev pub name_of : Collection → List ℕ
name_of c = c.name

abbrev pub id_of : Rec → List ℕ
id_of r = r.id

abbrev pub shelf_name : Shelf → List ℕ
shelf_name s = s.collection.name

-- the collection of a name
abbrev pub collection_at : World → Name → Option Collection
collection_at w name = find_key name_of name (collections_of w)

-- the records of a collection, by id; none where there is no such collection
abbrev pub recs_at : World → Name → List Rec
recs_at w name = option_map_or (λ s. s.recs) (shelf_named name w.shelves) []

-- the record of a collection and an id
abbrev pub rec_at : World → Name → Id → Option Rec
rec_at w name id = rec_of id (recs_at w name)

-- ---- shapes

-- the types of cells
pub data CellType : Type 0 where
  Text : CellType
  Num : CellType
  Flag : CellType
  Date : CellType
  Picks : CellType
  Json : CellType
  Refs : CellType

-- the type of the cells of a field of this kind
abbrev pub type_of_kind : Kind → CellType
type_of_kind (kind.Text min max) = Text
type_of_kind (kind.Number min max) = Num
type_of_kind kind.Flag = Flag
type_of_kind (kind.Date min max) = Date
type_of_kind (kind.Select values most) = Picks
type_of_kind (kind.Json max) = Json
type_of_kind (kind.Relation target most cascade) = Refs

-- the type of a cell
abbrev pub type_of_cell : Cell → CellType
type_of_cell (cell.Text t) = Text
type_of_cell (cell.Num n) = Num
type_of_cell (cell.Flag b) = Flag
type_of_cell (cell.Date d) = Date
type_of_cell (cell.Picks items) = Picks
type_of_cell (cell.Json tree) = Json
type_of_cell (cell.Refs ids) = Refs

-- what is left of a field where its options are left out: its name, its cells' type, and whether they may hold several items
pub record FieldShape : Type 0 where
  pub name : List ℕ
  pub type : CellType
  pub several : Bool

abbrev pub shape_of : Field → FieldShape
shape_of f = record { name = f.name; type = type_of_kind f.kind; several = is_multiple f.kind }

-- the shapes of a collection's fields
abbrev pub shapes_of : Collection → List FieldShape
shapes_of c = map shape_of c.fields

-- a cell is of the field's type, and holds one item at most where the field does
pub record Suits (f : FieldShape) (c : Cell) : Type 0 where
  pub type : type_of_cell c ≡ f.type
  pub few : f.several ≡ false → length (items_of c) ≤ 1

-- a record has one cell per field, and each suits its field
abbrev pub HasShape : List FieldShape → Rec → Type 0
HasShape shapes r = AllZip Suits shapes r.cells

-- a record may stand where this collection stands; where there is none, no record may
abbrev pub MayStand : Option Collection → Rec → Type 0
MayStand None r = ⊥
MayStand (Some c) r = HasShape (shapes_of c) r

-- ---- worlds in tables

-- a shelf whose records rise by id and have the collection's shape, and whose collection's fields have names of their own
pub record IsTabledShelf (s : Shelf) : Type 0 where
  pub ids : Rises id_of s.recs
  pub shapes : All (HasShape (shapes_of s.collection)) s.recs
  pub own : HasOwnNames s.collection

-- shelves that rise by name, each of this form
pub record IsTabled (w : World) : Type 0 where
  pub names : Rises shelf_name w.shelves
  pub shelves : All IsTabledShelf w.shelves
