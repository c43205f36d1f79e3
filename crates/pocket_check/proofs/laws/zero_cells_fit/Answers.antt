use Rattle.pocket_check.proofs.GivenLemmas.{zeros_fit}
use Rattle.pocket_check.proofs.laws.zero_cells_fit.Goals as goal

pub returns : goal.returns
returns c = λ k sound. zeros_fit k.fields
