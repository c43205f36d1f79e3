use Rattle.pocket_tables.proofs.LawLemmas.{collection_fits}
use Rattle.pocket_tables.proofs.WorldLemmas.{ordered_from}
use Rattle.pocket_tables.proofs.laws.collection_changes_fit.Goals as goal

pub returns : goal.returns
returns c = λ name after d w tabled changes. collection_fits name after d w (ordered_from w tabled).ids changes
