-- Where the members of paths stand in a world.
use Rattle.std.specs.Prelude.{◌≡◌, ◌⊎◌, ℕ, List, Some}
use Rattle.pocket_types.specs.Kinds.{target_of}
use Rattle.pocket_types.specs.World.{shelf_named}
use Rattle.pocket_types.specs.declared.names.Name.{Name}
use Rattle.pocket_types.specs.declared.records.Cell.{Cell}
use Rattle.pocket_types.specs.declared.records.Collection.{Collection}
use Rattle.pocket_types.specs.declared.records.Field.{Field}
use Rattle.pocket_types.specs.declared.records.Rec.{Rec}
use Rattle.pocket_types.specs.declared.ids.Id.{Id}
use Rattle.pocket_types.specs.declared.requests.Ask.{Ask}
use Rattle.pocket_types.specs.declared.requests.Caller.TheVariants as caller
use Rattle.pocket_types.specs.declared.resolved.Prefix.{Prefix}
use Rattle.pocket_types.specs.declared.resolved.Root.TheVariants as root
use Rattle.pocket_types.specs.declared.resolved.Step.TheVariants as step
use Rattle.pocket_types.specs.declared.world.Shelf.{Shelf}
use Rattle.pocket_types.specs.declared.world.World.{World}
use Rattle.pocket_meaning.specs.Members.{Member}
use Rattle.pocket_meaning.specs.Members as member
use Rattle.pocket_ops.specs.Fields.{field_at}
use Rattle.pocket_meaning.specs.Sights.{sight}
use Rattle.pocket_meaning.specs.Choosing.{IsIn, IsChoice, bare, then_step}

-- a record of the shelf of that name, with the shelf's collection
abbrev pub IsRecordOn : World → Name → Member → Type 0
IsRecordOn w name m =
    (s : Shelf) × (r : Rec) × (shelf_named name w.shelves ≡ Some s) × IsIn r s.recs × (m ≡ member.Record s.collection r)

-- nobody, or a record of the shelf of that name
abbrev pub StandsOn : World → Name → Member → Type 0
StandsOn w name m = (m ≡ member.Nobody) ⊎ IsRecordOn w name m

-- What a path has chosen is nobody or stands where the path leads: the record that is judged, beside its collection, or a record of the
-- world; over a relation one of the relation's target, and back one of the collection that the step names.
pub record PathsLeadToRecords : Type 0 where
  pub home :
      (w : World) (ask : Ask) (home : Name) (rec : Rec) (c : Prefix → Member) → IsChoice (sight w ask home rec) c
      → (c (bare root.Home) ≡ member.Nobody) ⊎ ((s : Shelf) × (shelf_named home w.shelves ≡ Some s) × (c (bare root.Home) ≡ member.Record s.collection rec))
  pub auth :
      (w : World) (ask : Ask) (home : Name) (rec : Rec) (c : Prefix → Member) → IsChoice (sight w ask home rec) c
      → (name : Name) (id : Id) → ask.caller ≡ caller.Member name id → StandsOn w name (c (bare root.Auth))
  pub look :
      (w : World) (ask : Ask) (home : Name) (rec : Rec) (c : Prefix → Member) → IsChoice (sight w ask home rec) c
      → (name : Name) (alias : List ℕ) → StandsOn w name (c (bare (root.Look name alias)))
  pub forward :
      (w : World) (ask : Ask) (home : Name) (rec : Rec) (c : Prefix → Member) → IsChoice (sight w ask home rec) c
      → (p : Prefix) (col : Collection) (r : Rec) (name : Name) (f : Field) (cell : Cell) (target : Name)
      → c p ≡ member.Record col r → field_at col r name ≡ Some (f, cell) → target_of f.kind ≡ Some target → StandsOn w target (c (then_step p (step.Forward name)))
  pub back :
      (w : World) (ask : Ask) (home : Name) (rec : Rec) (c : Prefix → Member) → IsChoice (sight w ask home rec) c
      → (p : Prefix) (from name : Name) → StandsOn w from (c (then_step p (step.Back from name)))
