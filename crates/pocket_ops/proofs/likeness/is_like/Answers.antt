use Rattle.std.proofs.Common.{not, ap, ◌∙◌}
use Rattle.pocket_ops.specs.declared.likeness.Place.{Place}
use Rattle.pocket_ops.proofs.Searches.{starts}
use Rattle.pocket_ops.proofs.likeness.is_like.Goals as goal

pub loop-found-init : goal.loop-found-init
loop-found-init c =
    let here : Place = record { pattern = c.args.pattern; text = c.args.text } in
    starts here c.then_some.result (not c.has_any-anywhere.result) (ap not c.has_any-anywhere.ensures) c.then_some.ensures

pub loop-found-preserved : goal.loop-found-preserved
loop-found-preserved c =
    record {
      same = c.in-Next.ensures.same ∙ c.loop-found.invariant.same;
      passed = c.in-Next.ensures.passed;
      within = c.in-Next.ensures.within _ c.loop-found.invariant.within;
    }
