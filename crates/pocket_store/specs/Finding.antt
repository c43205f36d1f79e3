-- What a row holds that may stand in a store.
use Rattle.std.specs.Prelude.{◌≡◌, List, ⊤}
use Rattle.pocket_types.specs.declared.records.Collection.{Collection}
use Rattle.pocket_keeper.specs.declared.rows.KeptRow.{KeptRow}
use Rattle.pocket_store.specs.Reading.{IsGoodRecAt}
use Rattle.pocket_store.specs.Stores.{IsCollectionRow, IsGoodToken}
use Rattle.pocket_store.specs.declared.stored.StoreFault.{StoreFault}
use Rattle.pocket_store.specs.declared.stored.StoreFault.TheVariants.{BadStore, Memory}
use Rattle.pocket_store.specs.declared.stores.Found.{Found}
use Rattle.pocket_store.specs.declared.stores.Found.TheVariants as found

abbrev pub Holds : List KeptRow → List Collection → KeptRow → Found → Type 0
Holds rows cs row found.Collection = IsCollectionRow rows cs row
Holds rows cs row (found.Rec at rec) = IsGoodRecAt rows cs row at rec
Holds rows cs row (found.Token t) = IsGoodToken rows cs row t

-- the fault names the row, unless memory is wanting
abbrev pub NamesRow : KeptRow → StoreFault → Type 0
NamesRow row (BadStore key) = key ≡ row.key
NamesRow row Memory = ⊤
