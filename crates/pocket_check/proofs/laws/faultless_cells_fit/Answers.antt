use Rattle.std.proofs.Common.{sym, subst}
use Rattle.pocket_check.specs.Validity.{faults_of}
use Rattle.pocket_check.proofs.FaultlessLemmas.{fit_from}
use Rattle.pocket_check.proofs.SentLemmas.{AllAlmostFit, sent_almost}
use Rattle.pocket_check.proofs.laws.faultless_cells_fit.Goals as goal

pub returns : goal.returns
unfolding faults_of
returns c = λ w who k old body fields r is none.
    fit_from w k r k.fields r.cells (subst (AllAlmostFit k.fields) (sym is.cells) (sent_almost who k old body fields is.sound is.old_fit is.profile is.read)) none
