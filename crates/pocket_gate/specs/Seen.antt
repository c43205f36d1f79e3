-- The world that a caller sees.
use Rattle.std.specs.Prelude.{map, filter, if◌then◌else◌}
use Rattle.pocket_types.specs.Callers.{is_admin}
use Rattle.pocket_types.specs.declared.requests.Action.TheVariants as action
use Rattle.pocket_types.specs.declared.requests.Ask.{Ask}
use Rattle.pocket_types.specs.declared.names.Name.{Name}
use Rattle.pocket_types.specs.declared.records.Rec.{Rec}
use Rattle.pocket_types.specs.declared.world.Shelf.{Shelf}
use Rattle.pocket_types.specs.declared.world.World.{World}
use Rattle.pocket_plan.specs.Cutting.{open_world}
use Rattle.pocket_plan.specs.Truth.{open_home}
use Rattle.pocket_gate.specs.Rules.{may}

-- a shelf with the records that the view rule admits
abbrev pub viewable_shelf : World → Ask → Shelf → Shelf
viewable_shelf w ask s = record { collection = s.collection; recs = filter (may w ask action.View s.collection) s.recs }

-- the world with the records that the view rules admit
abbrev pub viewable_world : World → Ask → World
viewable_world w ask = record { shelves = map (viewable_shelf w ask) w.shelves }

-- the world that a caller sees: the administrator sees it whole, others what they may view, without hidden fields
unfoldable pub seen_world : World → Ask → World
seen_world w ask = if is_admin ask.caller then w else open_world (viewable_world w ask)

-- a record of the collection `home` as the caller sees it
unfoldable pub seen_home : World → Ask → Name → Rec → Rec
seen_home w ask home r = if is_admin ask.caller then r else open_home w home r
