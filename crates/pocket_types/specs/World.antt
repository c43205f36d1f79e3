-- Look-ups in a world, and the worlds that lent shelves stand for.
use Rattle.std.specs.Prelude.{List, find, map, Option}
use Rattle.std.specs.Str.{bytes_eq}
use Rattle.pocket_types.specs.declared.names.Name.{Name}
use Rattle.pocket_types.specs.declared.ids.Id.{Id}
use Rattle.pocket_types.specs.declared.records.Rec.{Rec}
use Rattle.pocket_types.specs.declared.world.LentShelf.{LentShelf}
use Rattle.pocket_types.specs.declared.world.Shelf.{Shelf}
use Rattle.pocket_types.specs.declared.world.World.{World}

-- the first shelf of a name
abbrev pub shelf_named : Name → List Shelf → Option Shelf
shelf_named name = find (λ s. bytes_eq s.collection.name name)

-- the first record of an id
abbrev pub rec_of : Id → List Rec → Option Rec
rec_of id = find (λ r. bytes_eq r.id id)

-- the shelf that a lent one stands for
abbrev pub lent_shelf : LentShelf → Shelf
lent_shelf s = record { collection = s.collection.now; recs = s.recs.now }

-- the world that lent shelves stand for
abbrev pub lent_world : List LentShelf → World
lent_world shelves = record { shelves = map lent_shelf shelves }
