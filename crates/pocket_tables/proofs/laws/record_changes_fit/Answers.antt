use Rattle.pocket_tables.proofs.LawLemmas.{records_fit}
use Rattle.pocket_tables.proofs.laws.record_changes_fit.Goals as goal

pub returns : goal.returns
returns c = λ d w changes. records_fit d w changes
