use Rattle.pocket_standing.proofs.Sides.{sides_find}
use Rattle.pocket_standing.proofs.laws.typed_filters_find_their_fields.Goals as goal

pub returns : goal.returns
returns c = sides_find
