use Rattle.std.proofs.Common.{ap}
use Rattle.pocket_meaning.specs.Meaning.{true_in}
use Rattle.pocket_meaning.proofs.Sights.{same_sight}
use Rattle.pocket_meaning.proofs.laws.same_sight_same_truth.Goals as goal

pub returns : goal.returns
returns c = λ s t asked sent roots steps values f. ap (λ z. true_in z f) (same_sight s t asked sent roots steps values)
