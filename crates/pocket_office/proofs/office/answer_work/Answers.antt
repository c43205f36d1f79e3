use Rattle.std.proofs.Common.{refl, subst}
use Rattle.pocket_core.specs.Answers.{IsHistoryAfter, answer}
use Rattle.pocket_office.proofs.OfficeLemmas.{office_after}
use Rattle.pocket_office.proofs.office.answer_work.Goals as goal

pub invariant_of-office : goal.invariant_of-office
invariant_of-office g c =
    let office = c.office.inside in
    office_after g.K.Committer.rows g.K.Committer.faults (record { state = office.state; keeper = office.keeper; first = office.first.value })
    (record { state = c.call.new.self; keeper = c.call.new.keeper; first = office.first.value }) c.args.work c.call.result c.office.invariant
    c.call.ensures.opening refl c.call.ensures.history c.call.ensures.rows c.call.ensures.untold c.call.ensures.count.later

pub returns-clause-history : goal.returns-clause-history
returns-clause-history g c =
    subst (λ o. IsHistoryAfter (answer o.state.opening o.state.journal c.args.work) c.call.result c.args.work o.state.journal c.call.new.self.journal)
    c.office.view_is c.call.ensures.history
