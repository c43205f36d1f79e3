-- What a relation and its cells must lead to, to stand in a sound world.
use Rattle.std.specs.Prelude.{◌≡◌, List, [], ◌∷◌, map, All, Contains, IfSome, ⊤}
use Rattle.pocket_types.specs.Kinds.{target_of}
use Rattle.pocket_types.specs.declared.ids.Id.{Id}
use Rattle.pocket_types.specs.declared.names.Name.{Name}
use Rattle.pocket_types.specs.declared.records.Cell.{Cell}
use Rattle.pocket_types.specs.declared.records.Cell.TheVariants as cell
use Rattle.pocket_types.specs.declared.records.Collection.{Collection}
use Rattle.pocket_types.specs.declared.records.Field.{Field}
use Rattle.pocket_types.specs.declared.records.Kind.{Kind}
use Rattle.pocket_types.specs.declared.records.Kind.TheVariants as kind
use Rattle.pocket_types.specs.declared.records.Rec.{Rec}
use Rattle.pocket_types.specs.declared.world.Shelf.{Shelf}
use Rattle.pocket_types.specs.declared.world.World.{World}

-- the shelf of a name
pub record IsShelf (w : World) (name : Name) (s : Shelf) : Type 0 where
  pub there : Contains w.shelves s
  pub named : s.collection.name ≡ name

-- a record of this id stands on the shelf
abbrev pub HasRec : Shelf → Id → Type 0
HasRec s id = (r : Rec) × Contains s.recs r × (r.id ≡ id)

-- the collections of a world
abbrev pub collections_of : World → List Collection
collections_of w = map (λ s. s.collection) w.shelves

-- the collection that a relation leads to stands in the world
abbrev pub LeadsWithin : World → Field → Type 0
LeadsWithin w f = IfSome (target_of f.kind) (λ target. (s : Shelf) × IsShelf w target s)

-- each id that a cell holds is that of a record of the field's target
abbrev pub HoldsWithin : World → Kind → Cell → Type 0
HoldsWithin w (kind.Relation target most cascade) (cell.Refs ids) = All (λ id. (s : Shelf) × IsShelf w target s × HasRec s id) ids
HoldsWithin w _ _ = ⊤

abbrev pub AllHoldWithin : World → List Field → List Cell → Type 0
AllHoldWithin w [] cells = ⊤
AllHoldWithin w (f ∷ fs) [] = ⊤
AllHoldWithin w (f ∷ fs) (cell ∷ cells) = HoldsWithin w f.kind cell × AllHoldWithin w fs cells
