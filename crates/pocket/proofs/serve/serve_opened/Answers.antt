use Rattle.std.proofs.Common.{◌≡◌, ◌∙◌, ap, subst}
use denote.Exit.{yes}
use denote.Param.Send.{arg_send, param_send}
use Rattle.pocket_serve.specs.Hands.{hand_view}
use Rattle.pocket_core.specs.Answers.{after}
use Rattle.pocket_core.specs.Opening.{AreRowsOf}
use Rattle.pocket_office.specs.Offices.{AreAccepted, OfficeOpening, OfficeView}
use Rattle.pocket_office.proofs.Crossing.{office_send}
use Rattle.pocket.proofs.KeeperLemmas.{on_session, worked_so}
use Rattle.pocket.proofs.serve.serve_opened.Goals as goal

pub serve_machine-requires-send-M : goal.serve_machine-requires-send-M
serve_machine-requires-send-M g c κs within = param_send 0 _ (arg_send _ yes _ (office_send _ g.K.Committer c.type_bounds.send-K))

pub returns-in-Ok-clause-served : goal.returns-in-Ok-clause-served
returns-in-Ok-clause-served g c =
    let left = c.in-Ok.field-0 in
    let begun : c.new.result.state.opening ≡ c.args.state.opening = ap (λ (v : OfficeView g.row.K.Denot). v.state.opening) c.new.ensures in
    let same : left.machine.state.opening ≡ c.args.state.opening = ap (λ (o : OfficeOpening g.row.K.Denot). o.state) c.in-Ok.ensures.opening ∙ begun in
    on_session c.served.result.0.started _ c.served.ensures.started (
      subst (λ o. AreAccepted o c.served.result.1.journal) same c.served.ensures.accepted,
      subst (λ o. AreRowsOf (g.K.Committer.rows c.served.result.1.keeper) (after o c.served.result.1.journal)) same c.served.ensures.rows,
      worked_so (hand_view g.A.Acceptor.told g.C.Clock.answers g.D.Dice.answers) c.new.result.state.opening c.args.state.opening
          left.machine.state.journal c.served.result.1.journal c.args.hands.items left.hands.items c.served.result.1.hands.items left.ends.items
          c.served.result.0.workers begun c.served.ensures.journal c.served.ensures.hands c.served.ensures.workers c.in-Ok.ensures.worked,
    )
