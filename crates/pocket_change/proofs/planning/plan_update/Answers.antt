use Rattle.std.proofs.Common.{None}
use Rattle.std.specs.Option.{option_copied}
use Rattle.pocket_change.specs.Changes.{updated}
use Rattle.pocket_change.proofs.PlanLemmas.{plan_given}
use Rattle.pocket_change.proofs.planning.plan_update.Goals as goal

pub returns-clause-delta : goal.returns-clause-delta
returns-clause-delta g c =
    let w = c.args.tables.now.world in
    plan_given w c.args.collection.now (λ k. updated w c.args.ask.now k c.args.id (option_copied c.args.body)) None c.in-Ok.rec c.plan_put.result
    c.in-Ok.ensures.leads c.plan_put.ensures.delta
