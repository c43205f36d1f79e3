-- Worlds, requests and records of which filters are asked: each record's cells fit the fields of its collection.
use Rattle.std.specs.Prelude.{◌≡◌, true, All, IfSome, ⊤}
use Rattle.pocket_types.specs.Sound.{AllFit}
use Rattle.pocket_types.specs.World.{shelf_named}
use Rattle.pocket_types.specs.declared.names.Name.{Name}
use Rattle.pocket_types.specs.declared.records.Rec.{Rec}
use Rattle.pocket_types.specs.declared.requests.Ask.{Ask}
use Rattle.pocket_types.specs.declared.requests.Caller.{Caller}
use Rattle.pocket_types.specs.declared.requests.Caller.TheVariants as caller
use Rattle.pocket_types.specs.declared.world.Shelf.{Shelf}
use Rattle.pocket_types.specs.declared.world.World.{World}

-- each record's cells fit the fields of the shelf's collection
abbrev pub RecordsFit : Shelf → Type 0
RecordsFit s = All (λ r. AllFit s.collection.fields r.cells) s.recs

-- a member who asks is one of an auth collection
abbrev pub IsOfAuth : World → Caller → Type 0
IsOfAuth w caller.Guest = ⊤
IsOfAuth w (caller.Member name id) = IfSome (shelf_named name w.shelves) (λ s. s.collection.is_auth ≡ true)
IsOfAuth w caller.Admin = ⊤

-- a filter may be asked of a record for a request: the records of the world and the one that is judged fit their collections
pub record IsSoundScene (w : World) (ask : Ask) (home : Name) (rec : Rec) : Type 0 where
  pub records : All RecordsFit w.shelves
  pub judged : IfSome (shelf_named home w.shelves) (λ s. AllFit s.collection.fields rec.cells)
  pub asker : IsOfAuth w ask.caller
