use Rattle.pocket_check.specs.Validity.{faults_of}
use Rattle.pocket_check.proofs.FaultlessLemmas.{hold_within}
use Rattle.pocket_check.proofs.laws.faultless_relations_lead_within.Goals as goal

pub returns : goal.returns
unfolding faults_of
returns c = λ w k r tabled lead none. hold_within w k r k.fields r.cells none
