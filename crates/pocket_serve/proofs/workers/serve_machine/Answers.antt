use Rattle.std.proofs.Common.{rules, ◌≡◌, map, subst, sym}
use Rattle.pocket_desk.specs.History.{works}
use Rattle.pocket_desk.specs.Pass.{IsWhole}
use Rattle.pocket_serve.specs.Hands.{hand_view}
use Rattle.pocket_serve.specs.Owners.{Shared, SharedFits}
use Rattle.pocket_serve.specs.Workers.{AreWorked}
use Rattle.pocket_serve.proofs.Worked.{all_worked_over}
use Rattle.pocket_serve.proofs.workers.serve_machine.Goals as goal

pub returns-in-Ok-start-clause-worked : goal.returns-in-Ok-start-clause-worked
returns-in-Ok-start-clause-worked g c =
    let view = hand_view g.A.Acceptor.told g.C.Clock.answers g.D.Dice.answers in
    let opening = g.M.Machine.opening c.in-Ok-start.desk.opened in
    let opened : c.in-Ok-start.desk.opened ≡ c.args.machine = search rules in
    let first : IsWhole c.in-Ok-start.pass = search rules in
    let pass = c.serve_all-pass.result.0 in
    let history = g.M.Machine.history c.close-machine.result in
    let whole : history ≡ pass.ours = c.close-machine.ensures.whole (λ n. c.serve_all-pass.ensures.held n (first n)) in
    let over =
    all_worked_over (SharedFits (g.M.Machine.fits opening)) (g.M.Machine.enters opening) Shared (works pass.seen) history _ _ _ _ c.close-machine.ensures.history
    c.serve_all-pass.ensures.worked in
    subst (λ machine. AreWorked (SharedFits (g.M.Machine.fits (g.M.Machine.opening machine))) (g.M.Machine.enters (g.M.Machine.opening machine)) Shared
    history (map view c.args.hands.items) (map view c.serve_all-pass.result.1.items) c.serve_all-pass.result.2.items history) opened
    (subst (λ entered. AreWorked (SharedFits (g.M.Machine.fits opening)) (g.M.Machine.enters opening) Shared
    history (map view c.args.hands.items) (map view c.serve_all-pass.result.1.items) c.serve_all-pass.result.2.items entered) (sym whole) over)
