use Rattle.pocket_gate.proofs.Sights.{guard_shows_seen}
use Rattle.pocket_gate.proofs.laws.guards_show_what_is_seen.Goals as goal

pub returns : goal.returns
returns c = λ w ask tabled. guard_shows_seen w ask c.shelves_are_found.ensures tabled
