-- What the code's settings and places stand for.
use Rattle.pocket_types.specs.declared.resolved.Step.{Step}
use Rattle.pocket_resolve.specs.Paths as path
use Rattle.pocket_resolve.specs.declared.places.Place.{Place}
use Rattle.pocket_resolve.specs.declared.places.Place.TheVariants.{Of, Caller, Nowhere}
use Rattle.pocket_resolve.specs.declared.places.Setting.{Setting}

abbrev pub setting_of : Setting → path.Setting
setting_of s =
    record { collections = s.collections.now; home = s.home.now; guarded = s.guarded; operand = s.operand; any = s.any }

abbrev pub place_of : Place → path.Place
place_of (Of c) = path.Of c.now
place_of Caller = path.Caller
place_of Nowhere = path.Nowhere

-- a step with the place that it leads to
abbrev pub moved_to : Step × Place → Step × path.Place
moved_to next = (next.0, place_of next.1)
