use Rattle.std.proofs.Common.{rules, [], ◌++◌, ap, length, subst, sym, ◌∙◌}
use Rattle.pocket_serve.specs.Owners.{Alone}
use Rattle.pocket_serve.specs.Sessions.{IsSession}
use Rattle.pocket_core.specs.Answers.{after}
use Rattle.pocket_core.specs.Opening.{AreRowsOf}
use Rattle.pocket.specs.Calls.{StateEnters, StateFits, turns_of}
use Rattle.pocket.proofs.KeeperLemmas.{counted_over}
use Rattle.pocket.proofs.run.run_opened.Goals as goal

pub returns-clause-session : goal.returns-clause-session
returns-clause-session g c =
    let p = c.run_session-service.ensures.session in
    let opening = c.args.state.opening in
    let then = c.run_session-service.result.0.state in
    let ended = c.run_session-service.result.1 in
    let turns = p.5.0 ∙ ap (λ t. t ++ turns_of p.0) c.new.ensures in
    let from_first =
    subst (λ n. IsSession (StateFits opening) (StateEnters opening) Alone then.journal n p.0 p.1 p.2 p.3 ended (length then.journal))
    (ap length c.requires.fresh) p.6 in
    let own =
    subst (λ j. IsSession (StateFits opening) (StateEnters opening) Alone j 0 p.0 p.1 p.2 p.3 ended (length j)) (sym c.into_journal.ensures) from_first in
    let rows =
    subst (λ j. AreRowsOf (g.K.Committer.rows c.run_session-service.new.lent) (after opening j)) (sym c.into_journal.ensures)
    (subst (λ o. AreRowsOf (g.K.Committer.rows c.run_session-service.new.lent) (after o then.journal)) c.run_session-service.ensures.opening
    c.run_session-service.ensures.ready) in
    let counted = counted_over p.0 (g.K.Committer.faults c.args.keeper.now) (g.K.Committer.faults c.run_session-service.new.lent) p.5.2 in
    (p.0, p.1, p.2, p.3, search (rules, p.4), turns, own, search (rules, p.7), search (rules, p.8), rows, record { untold = p.5.1; later = counted.0; failed = counted.1 })

pub returns-clause-keeper_count : goal.returns-clause-keeper_count
returns-clause-keeper_count g c =
    let p = c.run_session-service.ensures.session in
    (counted_over p.0 (g.K.Committer.faults c.args.keeper.now) (g.K.Committer.faults c.run_session-service.new.lent) p.5.2).0
