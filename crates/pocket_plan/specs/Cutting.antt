-- What a guard leaves of a world: the records that its views admit, without hidden fields.
use Rattle.std.specs.Prelude.{Bool, true, false, not, List, Option, map, filter, find, zip}
use Rattle.std.specs.Option.{option_map_or}
use Rattle.std.specs.Str.{bytes_eq}
use Rattle.pocket_types.specs.declared.names.Name.{Name}
use Rattle.pocket_types.specs.declared.records.Collection.{Collection}
use Rattle.pocket_types.specs.declared.records.Field.{Field}
use Rattle.pocket_types.specs.declared.records.Rec.{Rec}
use Rattle.pocket_types.specs.declared.requests.Ask.{Ask}
use Rattle.pocket_types.specs.declared.world.Shelf.{Shelf}
use Rattle.pocket_types.specs.declared.world.World.{World}
use Rattle.pocket_meaning.specs.Meaning.{holds}
use Rattle.pocket_plan.specs.declared.guard.Guard.{Guard}
use Rattle.pocket_plan.specs.declared.guard.View.{View}
use Rattle.pocket_plan.specs.declared.guard.ViewTest.{ViewTest}
use Rattle.pocket_plan.specs.declared.guard.ViewTest.TheVariants as test

-- a field that isn't hidden
abbrev pub is_open : Field → Bool
is_open f = not f.hidden

-- a collection without its hidden fields
abbrev pub open_collection : Collection → Collection
open_collection c = record c { fields = filter is_open c.fields }

-- a record without the cells of hidden fields; the ids that it holds stay
abbrev pub open_rec : Collection → Rec → Rec
open_rec c r = record r { cells = map (λ x. x.1) (filter (λ x. is_open x.0) (zip c.fields r.cells)) }

-- a shelf without its hidden fields
abbrev pub open_shelf : Shelf → Shelf
open_shelf s = record { collection = open_collection s.collection; recs = map (open_rec s.collection) s.recs }

-- whether a view admits a record of the collection `name`: its filter is asked in the whole world
abbrev pub passes : World → Ask → Name → Rec → ViewTest → Bool
passes w ask name r test.All = true
passes w ask name r test.Nobody = false
passes w ask name r (test.ByPlan f) = holds w ask name r f

-- the first view of a collection
abbrev pub view_named : Name → List View → Option View
view_named name = find (λ v. bytes_eq v.collection name)

-- whether a guard admits a record of the collection `name`; a collection without a view admits nobody
unfoldable pub admits : World → Guard → Ask → Name → Rec → Bool
admits w g ask name r = option_map_or (λ v. passes w ask name r v.test) (view_named name g.views) false

-- a shelf with the records that a guard admits
abbrev pub admitted_shelf : World → Guard → Ask → Shelf → Shelf
admitted_shelf w g ask s = record { collection = s.collection; recs = filter (admits w g ask s.collection.name) s.recs }

-- the world with the records that a guard admits
abbrev pub admitted_world : World → Guard → Ask → World
admitted_world w g ask = record { shelves = map (admitted_shelf w g ask) w.shelves }

-- a world without hidden fields
abbrev pub open_world : World → World
open_world w = record { shelves = map open_shelf w.shelves }

-- what a guard leaves of a world: the records that it admits, without hidden fields; the ids that they hold stay
unfoldable pub guarded_world : World → Guard → Ask → World
guarded_world w g ask = open_world (admitted_world w g ask)
