use Rattle.pocket_meaning.proofs.Layers.{one_choice, true_in-plain}
use Rattle.pocket_meaning.proofs.laws.a_plain_filter_has_one_choice.Goals as goal

pub returns : goal.returns
returns c = record { one = one_choice; truth = true_in-plain }
