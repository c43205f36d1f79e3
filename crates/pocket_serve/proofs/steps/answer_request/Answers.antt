use Rattle.pocket_serve.proofs.Sent.{served}
use Rattle.pocket_serve.proofs.steps.answer_request.Goals as goal

pub returns-clause-served : goal.returns-clause-served
returns-clause-served g c =
    let called = rw c.in-Some.is at c.call-service.ensures.some in (
      c.draw_next-draw.result,
      c.draw_next-draw.ensures,
      served _ _ _ _ _ _ _ _ _ _ _ _ _ c.args.number c.args.request.now c.draw_next-draw.result c.conclude-ended.result c.in-Ok.work c.in-Some.reply c.in-Ok.ensures called
          c.conclude-ended.ensures.sent,
    )
