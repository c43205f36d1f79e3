use denote.Param.Send.{sendable}
use Rattle.std.proofs.Common.{arith}
use Rattle.pocket_main.proofs.Crossing.{host_keeper_send}
use Rattle.pocket_main.proofs.Workers.{all_served, on_session}
use Rattle.pocket_main.proofs.serve.run_over.Goals as goal

pub run_serve-status-requires-send-K : goal.run_serve-status-requires-send-K
run_serve-status-requires-send-K g c κs within = search (sendable, host_keeper_send) depth 20

pub returns : goal.returns
returns g c connections left =
    on_session c.run_serve-status.result.0.started
    (λ ended served. let all = all_served _ _ _ _ _ connections _ _ _ _ left served.4 in (omega (arith, all.0, c.args.hands.ok.0), all.1))
    c.run_serve-status.ensures.served
