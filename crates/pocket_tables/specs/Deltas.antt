-- The world after a delta, and the delta that undoes it.
use Rattle.std.specs.Prelude.{◌≡◌, ◌⊎◌, ℕ, IsTrue, List, map, filter, Option, Some, None, IfSome, All, ⊤}
use Rattle.std.specs.Str.{bytes_eq}
use Rattle.pocket_types.specs.Within.{collections_of}
use Rattle.pocket_types.specs.declared.deltas.Delta.{Delta}
use Rattle.pocket_types.specs.declared.deltas.RecChange.{RecChange}
use Rattle.pocket_types.specs.declared.deltas.ShelfChange.{ShelfChange}
use Rattle.pocket_types.specs.declared.names.Name.{Name}
use Rattle.pocket_types.specs.declared.records.Collection.{Collection}
use Rattle.pocket_types.specs.declared.records.Rec.{Rec}
use Rattle.pocket_types.specs.declared.world.World.{World}
use Rattle.pocket_ops.specs.Lengths.{HasOwnNames}
use Rattle.pocket_tables.specs.Keyed.{AtDistinctKeys, Change, find_key, is_touched, put_all}
use Rattle.pocket_tables.specs.Worlds.{MayStand, collection_at, id_of, name_of, rec_at, recs_at, shapes_of}

-- ---- the world after

-- what a delta says of collections: a name, and what stands there afterwards
abbrev pub shelf_change : ShelfChange → Change Collection
shelf_change c = (c.name, c.after)

abbrev pub shelf_changes : List ShelfChange → List (Change Collection)
shelf_changes changes = map shelf_change changes

-- what it says of the records of one collection: an id, and what stands there afterwards
abbrev pub rec_change : RecChange → Change Rec
rec_change c = (c.id, c.after)

abbrev pub rec_changes : List RecChange → Name → List (Change Rec)
rec_changes changes name = map rec_change (filter (λ c. bytes_eq c.collection name) changes)

-- the collections after a delta, rising by name where they rise before
abbrev pub collections_after : Delta → World → List Collection
collections_after d w = put_all name_of (shelf_changes d.shelves) (collections_of w)

-- the collection of a name after a delta
abbrev pub collection_after : Delta → World → Name → Option Collection
collection_after d w name = find_key name_of name (collections_after d w)

-- the records of a name after a delta
abbrev pub recs_after : Delta → World → Name → List Rec
recs_after d w name = put_all id_of (rec_changes d.recs name) (recs_at w name)

-- the collections after the delta, each with the records of its name
unfoldable pub world_after : Delta → World → World
world_after d w = record { shelves = map (λ c. record { collection = c; recs = recs_after d w c.name }) (collections_after d w) }

-- ---- the inverse

-- a change at the same name, to what a function gives for it
abbrev pub shelf_back : (List ℕ → Option Collection) → ShelfChange → ShelfChange
shelf_back f c = record c { after = f c.name }

-- a change at the same name and id, to what a function gives for them
abbrev pub rec_back : (List ℕ → List ℕ → Option Rec) → RecChange → RecChange
rec_back f c = record c { after = f c.collection c.id }

-- each change leads to what stood there before
unfoldable pub inverse : Delta → World → Delta
inverse d w = record { shelves = map (shelf_back (collection_at w)) d.shelves; recs = map (rec_back (rec_at w)) d.recs }

-- ---- which deltas fit

-- there was no collection, or it stays with fields of the same names, types and multiplicities
abbrev pub KeepsShape : Option Collection → Option Collection → Type 0
KeepsShape None after = ⊤
KeepsShape (Some before) None = ⊥
KeepsShape (Some before) (Some after) = shapes_of before ≡ shapes_of after

-- Each name, and each pair of name and id, stands in the delta at most once. What is put bears its name or its id. The fields of a
-- collection that is put have names of their own. A record is put only where its collection stands afterwards, in its shape. And
-- where a collection goes or changes its shape, each of its records stands in the delta.
pub record FitsWorld (d : Delta) (w : World) : Type 0 where
  pub names : AtDistinctKeys (shelf_changes d.shelves)
  pub ids : (name : List ℕ) → AtDistinctKeys (rec_changes d.recs name)
  pub named : All (λ c. IfSome c.after (λ k. k.name ≡ c.name)) d.shelves
  pub numbered : All (λ c. IfSome c.after (λ r. r.id ≡ c.id)) d.recs
  pub own : All (λ c. IfSome c.after HasOwnNames) d.shelves
  pub shaped : All (λ c. IfSome c.after (MayStand (collection_after d w c.collection))) d.recs
  pub covered : (name : List ℕ) → KeepsShape (collection_at w name) (collection_after d w name)
      ⊎ All (λ r. IsTrue (is_touched r.id (rec_changes d.recs name))) (recs_at w name)
