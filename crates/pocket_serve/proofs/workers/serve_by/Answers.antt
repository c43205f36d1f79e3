use Rattle.pocket_serve.specs.Hands.{hand_view}
use Rattle.pocket_serve.specs.Owners.{Shared, SharedFits}
use Rattle.pocket_serve.proofs.Worked.{worked_by}
use Rattle.pocket_serve.proofs.workers.serve_by.Goals as goal

pub returns-clause-held : goal.returns-clause-held
returns-clause-held g c = c.serve_hand-pass.ensures.served.1.held

pub returns-clause-worked : goal.returns-clause-worked
returns-clause-worked g c =
    let is = c.serve_hand-pass.ensures.served in
    let view = hand_view g.A.Acceptor.told g.C.Clock.answers g.D.Dice.answers in
    let opening = g.M.Machine.opening c.args.worker.desk.now.opened in
    worked_by (SharedFits (g.M.Machine.fits opening)) (g.M.Machine.enters opening) Shared c.args.pass c.serve_hand-pass.result.0 is.0 (view c.args.hand) (view c.serve_hand-pass.new.hand)
    c.serve_hand-pass.result.1 c.requires.new.0 c.requires.new.1 is.1 is.2 is.3
