use Rattle.pocket_meaning.proofs.CarriedOver.{carried_truth}
use Rattle.pocket_meaning.proofs.laws.truth_is_carried_over.Goals as goal

pub returns : goal.returns
returns c = carried_truth
