use Rattle.pocket_wire.proofs.Determined.{stays}
use Rattle.pocket_wire.proofs.request.decisions_stay.Goals as goal

pub returns : goal.returns
returns c = stays
