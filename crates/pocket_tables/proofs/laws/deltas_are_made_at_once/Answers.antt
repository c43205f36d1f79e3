use Rattle.pocket_tables.proofs.LawLemmas.{at_once}
use Rattle.pocket_tables.proofs.WorldLemmas.{ordered_from}
use Rattle.pocket_tables.proofs.laws.deltas_are_made_at_once.Goals as goal

pub returns : goal.returns
returns c = λ d w tabled fits. at_once d w (ordered_from w tabled) fits
