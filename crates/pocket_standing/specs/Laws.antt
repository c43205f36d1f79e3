-- No typed filter is stuck.
use Rattle.std.specs.Prelude.{All}
use Rattle.pocket_types.specs.Within.{collections_of}
use Rattle.pocket_types.specs.declared.names.Name.{Name}
use Rattle.pocket_types.specs.declared.records.Rec.{Rec}
use Rattle.pocket_types.specs.declared.requests.Ask.{Ask}
use Rattle.pocket_types.specs.declared.resolved.Prefix.{Prefix}
use Rattle.pocket_types.specs.declared.resolved.Resolved.{Resolved}
use Rattle.pocket_types.specs.declared.world.World.{World}
use Rattle.pocket_resolve.specs.Paths.{Place}
use Rattle.pocket_resolve.specs.Typing.{StandsAt, IsTyped, sides}
use Rattle.pocket_meaning.specs.Choosing.{IsChoice}
use Rattle.pocket_meaning.specs.Members.{Member}
use Rattle.pocket_meaning.specs.Sights.{sight}
use Rattle.pocket_standing.specs.Finding.{IsChosenAt, Finds}
use Rattle.pocket_standing.specs.Scenes.{IsSoundScene}

-- a prefix that stands at a place has chosen nobody or a record of that place
abbrev pub PrefixesStand : Type 0
PrefixesStand =
    (w : World) (ask : Ask) (home : Name) (rec : Rec) (c : Prefix → Member) → IsSoundScene w ask home rec → IsChoice (sight w ask home rec) c
    → (p : Prefix) (place : Place) → StandsAt (collections_of w) home p place → IsChosenAt w place (c p)

-- each side of each comparison of a typed filter finds what it asks for
abbrev pub TypedSidesFind : Type 0
TypedSidesFind =
    (w : World) (ask : Ask) (home : Name) (rec : Rec) (c : Prefix → Member) → IsSoundScene w ask home rec → IsChoice (sight w ask home rec) c
    → (f : Resolved) → IsTyped (collections_of w) home f → All (λ s. Finds w ask home c s.0 s.1) (sides f)
