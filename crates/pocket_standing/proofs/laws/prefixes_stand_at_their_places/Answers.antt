use Rattle.pocket_standing.proofs.Places.{prefix_stands}
use Rattle.pocket_standing.proofs.laws.prefixes_stand_at_their_places.Goals as goal

pub returns : goal.returns
returns c = prefix_stands
