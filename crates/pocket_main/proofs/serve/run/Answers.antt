use Rattle.std.proofs.Common.{subst}
use Rattle.pocket_main.specs.Outcomes.{IsServedBy}
use Rattle.pocket_main.proofs.serve.run.Goals as goal

pub returns-in-Ok-open_keeper : goal.returns-in-Ok-open_keeper
returns-in-Ok-open_keeper g c =
    subst (λ workers. IsServedBy workers c.args.connections c.run_over.result) c.in-Ok.ensures.workers
    (c.run_over.ensures c.args.connections c.in-Ok.ensures.connections)
