use Rattle.std.proofs.Common.{rules, ◌≡◌, ◌∙◌, ap}
use Rattle.pocket_desk.specs.declared.view.Stage.TheVariants.{Waiting}
use Rattle.pocket_desk.proofs.Steps.{looks_at_serving}
use Rattle.pocket_desk.proofs.turn.await_turn.Goals as goal

pub load-requires : goal.load-requires
load-requires g c = (search rules, search rules, looks_at_serving _ _ _ _ _ _ c.args.ticket (search rules))

pub loop-preserved : goal.loop-preserved
loop-preserved g c =
    let waits : c.loop.seat.me.0.stage ≡ Waiting c.args.ticket = ap (λ m. m.0.stage) c.loop.invariant.1 ∙ c.requires.waiting.0 in
    (search rules, (c.load.ensures.2 c.args.ticket waits).1 c.if-load-ticket.false ∙ c.loop.invariant.1)
