use Rattle.std.proofs.Common.{◌∙◌, ap, subst, sym}
use Rattle.pocket_states.specs.States.{StateView}
use Rattle.pocket_office.specs.Offices.{AreAccepted}
use Rattle.pocket.proofs.serve.served.Goals as goal

pub returns-clause-accepted : goal.returns-clause-accepted
returns-clause-accepted g c =
    subst (AreAccepted c.args.office.state.opening) (sym (c.into_journal.ensures ∙ ap (λ (s : StateView). s.journal) c.into_parts-state.ensures.state))
    c.into_parts-state.ensures.office.accepted
