use Rattle.std.proofs.Common.{rules, ap, ◌∙◌, ◌≡◌, Some}
use Rattle.pocket_desk.specs.declared.view.Stage.TheVariants.{Serving, Closing}
use Rattle.pocket_desk.proofs.Steps.{closes}
use Rattle.pocket_desk.proofs.Passes.{empty_at_end, machine_at_turn, whole_at_turn}
use Rattle.pocket_desk.proofs.desk.Desk.close.Goals as goal

pub load-requires : goal.load-requires
load-requires g c =
    let serves : c.take_machine-machine.new.seat.me.0.stage ≡ Serving c.take_ticket-last.result = ap (λ v. v.stage) c.take_machine-machine.ensures.seat.1 ∙ ap (λ m. m.0.stage) c.await_turn.ensures.turn.now in
    (search rules, search rules, closes _ _ _ _ _ _ _ c.take_machine-machine.ensures.slot serves)

pub unreachable-requires : goal.unreachable-requires
unreachable-requires g c =
    let serves : c.take_machine-machine.new.seat.me.0.stage ≡ Serving c.take_ticket-last.result = ap (λ v. v.stage) c.take_machine-machine.ensures.seat.1 ∙ ap (λ m. m.0.stage) c.await_turn.ensures.turn.now in
    let closing : c.load.new.seat.me.0.stage ≡ Closing c.take_ticket-last.result = ap (λ m. m.0.stage) (c.load.ensures.2 _ serves) in
    c.in_default.not-None (empty_at_end g.M.Machine.opening g.M.Machine.history c.self.inside.table.shared.key.value _ _ _ _ _ _ closing c.close_with-closed.ensures.values.2 c.take-left.ensures.value)

pub returns-clause-history : goal.returns-clause-history
returns-clause-history g c =
    let key = c.self.inside.table.shared.key.value in
    let is : c.pass.inside.seat.me.0.opened ≡ Some key = search rules in
    rw (← c.pass.view_is) (machine_at_turn g.M.Machine.opening g.M.Machine.history key _ _ c.pass.inside.seat.me.0 c.take_ticket-last.result c.take_machine-machine.result c.take_ticket-last.ensures.1 c.await_turn.ensures.turn c.take_machine-machine.ensures.machine is).1

pub returns-clause-whole : goal.returns-clause-whole
returns-clause-whole g c =
    let key = c.self.inside.table.shared.key.value in
    rw (← c.pass.view_is) (whole_at_turn g.M.Machine.opening g.M.Machine.history key _ _ c.pass.inside.seat.me.0 c.take_ticket-last.result c.take_machine-machine.result c.take_ticket-last.ensures.1 c.await_turn.ensures.turn c.take_machine-machine.ensures.machine)
