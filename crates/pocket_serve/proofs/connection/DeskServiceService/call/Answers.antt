use Rattle.std.proofs.Common.{refl}
use Rattle.pocket_serve.proofs.Desks.{desk_call, desk_called, made, seen_grows}
use Rattle.pocket_serve.proofs.connection.DeskServiceService.call.Goals as goal

pub returns-clause-grows : goal.returns-clause-grows
returns-clause-grows g c = seen_grows _ _ c.args.self.pass c.call-pass.result.0 c.args.work c.call-pass.result.1 c.call-pass.ensures.call

pub returns-clause-some : goal.returns-clause-some
returns-clause-some g c =
    let is = c.call-pass.ensures.call in (
      made _ _ c.args.self.pass c.call-pass.result.0 c.args.work c.call-pass.result.1 is,
      refl,
      refl,
      desk_call _ _ c.args.self.pass c.call-pass.result.0 c.args.work c.call-pass.result.1 is,
      (desk_called _ _ c.args.self.pass c.call-pass.result.0 c.args.work c.call-pass.result.1 is, refl),
    )
