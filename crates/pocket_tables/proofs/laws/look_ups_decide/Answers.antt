use Rattle.pocket_tables.proofs.LawLemmas.{same_world}
use Rattle.pocket_tables.proofs.WorldLemmas.{ordered_from}
use Rattle.pocket_tables.proofs.laws.look_ups_decide.Goals as goal

pub returns : goal.returns
returns c = λ v w first second. same_world v w (ordered_from v first) (ordered_from w second)
