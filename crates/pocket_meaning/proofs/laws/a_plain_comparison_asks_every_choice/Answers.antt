use Rattle.pocket_meaning.proofs.Picks.{always_from, always_to}
use Rattle.pocket_meaning.proofs.laws.a_plain_comparison_asks_every_choice.Goals as goal

pub returns : goal.returns
returns c = λ s l o r. (always_from s l o r, always_to s l o r)
