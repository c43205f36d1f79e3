use Rattle.pocket_tables.proofs.LawLemmas.{first_least}
use Rattle.pocket_tables.proofs.laws.first_is_least.Goals as goal

pub returns : goal.returns
returns c = λ after recs rising. first_least after recs rising
