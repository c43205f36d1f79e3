-- A world taken apart.
use Rattle.std.specs.Prelude.{◌≡◌, List}
use Rattle.std.specs.List.{AllZip}
use Rattle.pocket_types.specs.Within.{collections_of}
use Rattle.pocket_types.specs.declared.records.Collection.{Collection}
use Rattle.pocket_types.specs.declared.world.Shelf.{Shelf}
use Rattle.pocket_tables.specs.declared.drawers.Drawer.{Drawer}

-- the drawer of a shelf: its collection's name, and its records
pub record IsDrawerOf (s : Shelf) (d : Drawer) : Type 0 where
  pub name : d.name ≡ s.collection.name
  pub recs : d.recs.items ≡ s.recs

-- the collections of shelves, and a drawer for each
pub record ArePartsOf (cs : List Collection) (drawers : List Drawer) (shelves : List Shelf) : Type 0 where
  pub collections : cs ≡ collections_of (record { shelves = shelves })
  pub each : AllZip IsDrawerOf shelves drawers
