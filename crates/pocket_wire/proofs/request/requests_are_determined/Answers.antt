use Rattle.pocket_wire.proofs.Determined.{determined}
use Rattle.pocket_wire.proofs.request.requests_are_determined.Goals as goal

pub returns : goal.returns
returns c = determined
