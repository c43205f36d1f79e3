-- Reading rows one by one.
use Rattle.std.specs.Prelude.{◌≡◌, ◌⊎◌, ◌<◌, ℕ, List, [], ◌∷◌, ◌++◌, length, Some, Ok, slice_get}
use Rattle.pocket_types.specs.declared.records.Collection.{Collection}
use Rattle.pocket_types.specs.declared.records.Rec.{Rec}
use Rattle.pocket_types.specs.declared.expr.Expr.{Expr}
use Rattle.pocket_types.specs.declared.resolved.Resolved.{Resolved}
use Rattle.pocket_filter.specs.Filters.{IsFilter}
use Rattle.pocket_resolve.specs.Filters.{resolution}
use Rattle.pocket_resolve.specs.declared.purpose.Purpose.{Purpose}
use Rattle.pocket_keeper.specs.declared.rows.KeptRow.{KeptRow}
use Rattle.pocket_rows.specs.RowReading.{KeepsCollection, KeepsNoCollection}
use Rattle.pocket_store.specs.Stores.{IsGoodRec}

-- the collection of the name stands at this place
pub record IsPlaceOf (cs : List Collection) (name : List ℕ) (at : ℕ) : Type 0 where
  pub collection : Collection
  pub place : slice_get cs at ≡ Some collection
  pub named : collection.name ≡ name
  pub within : at < length cs

-- the row of a record of the collection at this place may stand there
pub record IsGoodRecAt (rows : List KeptRow) (cs : List Collection) (row : KeptRow) (at : ℕ) (rec : Rec) : Type 0 where
  pub collection : Collection
  pub place : slice_get cs at ≡ Some collection
  pub good : IsGoodRec rows row collection rec

-- the row keeps a collection, which is added
pub record KeepsNext (row : KeptRow) (old new : List Collection) : Type 0 where
  pub collection : Collection
  pub keeps : KeepsCollection row collection
  pub added : new ≡ old ++ collection ∷ []

-- the row keeps no collection, and none is added
pub record KeepsNone (row : KeptRow) (old new : List Collection) : Type 0 where
  pub none : KeepsNoCollection row
  pub same : new ≡ old

abbrev pub AddsCollection : KeptRow → List Collection → List Collection → Type 0
AddsCollection row old new = KeepsNext row old new ⊎ KeepsNone row old new

-- the one tree of a filter's text
pub record IsOnlyTree (text : List ℕ) (tree : Expr) : Type 0 where
  pub parses : IsFilter text tree
  pub only : (other : Expr) → IsFilter text other → other ≡ tree

-- a filter resolves for this purpose
pub record IsResolved (cs : List Collection) (purpose : Purpose) (tree : Expr) : Type 0 where
  pub resolved : Resolved
  pub resolves : resolution cs purpose tree ≡ Ok resolved
