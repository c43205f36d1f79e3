use Rattle.std.proofs.Common.{Some}
use Rattle.std.specs.Option.{option_copied}
use Rattle.pocket_change.specs.Changes.{created}
use Rattle.pocket_change.proofs.PlanLemmas.{plan_given}
use Rattle.pocket_change.proofs.planning.plan_create.Goals as goal

pub returns-clause-delta : goal.returns-clause-delta
returns-clause-delta g c =
    let w = c.args.tables.now.world in
    plan_given w c.args.collection.now (λ k. created w c.args.ask.now k (option_copied c.args.body) c.args.words) (Some c.in-Ok.made.ask) c.in-Ok.made.rec
    c.plan_put.result c.in-Ok.ensures.leads c.plan_put.ensures.delta
