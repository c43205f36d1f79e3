use Rattle.std.proofs.Common.{◌∙◌}
use Rattle.std.specs.Option.{option_copied}
use Rattle.pocket_change.proofs.ChainLemmas.{updated_none, updated_stops}
use Rattle.pocket_change.proofs.candidates.refusal.Goals as goal

pub returns-in-Ok : goal.returns-in-Ok
returns-in-Ok c = λ w id none told.
    updated_none w c.args.ask.now c.args.collection.now id (option_copied c.args.body) c.in-Ok.tree.now c.in-Ok.ensures.body none ∙ c.tree_refusal.ensures told

pub returns-in-Err : goal.returns-in-Err
returns-in-Err c = λ w id none told.
    updated_stops w c.args.ask.now c.args.collection.now id (option_copied c.args.body) c.in-Err.fault (c.in-Err.ensures.body told)
