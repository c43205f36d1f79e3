use Rattle.pocket_meaning.proofs.Picks.{settled, early_end}
use Rattle.pocket_meaning.proofs.laws.a_chosen_part_is_settled.Goals as goal

pub returns : goal.returns
returns c = record { settled = settled; early_end = early_end }
