use Rattle.pocket_meaning.proofs.Picks.{shared, from_shared}
use Rattle.pocket_meaning.proofs.laws.conditions_share_a_choice.Goals as goal

pub returns : goal.returns
returns c = λ s l m o p r q. (shared s l m o p r q, from_shared s l m o p r q)
