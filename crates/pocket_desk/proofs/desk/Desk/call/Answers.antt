use Rattle.pocket_desk.proofs.Passes.{calls}
use Rattle.pocket_desk.proofs.desk.Desk.call.Goals as goal

pub invariant_of-result : goal.invariant_of-result
invariant_of-result g c = let k = c.self.inside.table.shared.key.value in let s = c.serve-reply.new.seat in let v = g.M.Machine in
    (calls (v.fits (v.opening k)) (v.enters (v.opening k)) v.opening v.history s.table_id s.table_id
    c.pass.inside.seat.me c.take_ticket-ticket.new.seat.me c.await_turn.new.seat s c.take_ticket-ticket.result c.args.work c.serve-reply.result
    c.pass.invariant c.take_ticket-ticket.ensures.1 c.await_turn.ensures.turn c.serve-reply.ensures).0

pub returns-clause-call : goal.returns-clause-call
returns-clause-call g c = let k = c.self.inside.table.shared.key.value in let s = c.serve-reply.new.seat in let v = g.M.Machine in
    rw (← c.pass.view_is, ← c.self.view_is) (calls (v.fits (v.opening k)) (v.enters (v.opening k)) v.opening v.history c.pass.inside.seat.table_id s.table_id
    c.pass.inside.seat.me c.take_ticket-ticket.new.seat.me c.await_turn.new.seat s c.take_ticket-ticket.result c.args.work c.serve-reply.result
    c.pass.invariant c.take_ticket-ticket.ensures.1 c.await_turn.ensures.turn c.serve-reply.ensures).1
