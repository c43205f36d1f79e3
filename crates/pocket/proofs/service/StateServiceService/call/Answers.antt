use Rattle.std.proofs.Common.{refl, ap, length}
use Rattle.pocket.proofs.CallLemmas.{call_at, continues}
use Rattle.pocket.proofs.service.StateServiceService.call.Goals as goal

pub returns-clause-grows : goal.returns-clause-grows
returns-clause-grows g c =
    (continues c.args.self.state.opening c.args.self.state.journal c.args.work c.call-reply.result (length c.journal.result.now) (ap length c.journal.ensures)
    c.call-reply.ensures.reply c.call-reply.new.self.journal c.call-reply.ensures.history).0

pub returns-clause-some : goal.returns-clause-some
returns-clause-some g c =
    let made =
    continues c.args.self.state.opening c.args.self.state.journal c.args.work c.call-reply.result (length c.journal.result.now) (ap length c.journal.ensures)
    c.call-reply.ensures.reply c.call-reply.new.self.journal c.call-reply.ensures.history in
    (call_at (length c.journal.result.now) c.args.work c.call-reply.result, refl, refl, made.1, (c.in-Ok.ensures.ok, c.call-reply.ensures.untold, (_, c.call-reply.ensures.count, refl)))
