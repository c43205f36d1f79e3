use Rattle.std.proofs.Common.{◌∙◌, ap, arith, length, subst, sym}
use Rattle.pocket_core.specs.Callers.{whole_of}
use Rattle.pocket_core.specs.Entering.{Entry}
use Rattle.pocket_core.proofs.KeepLemmas.{no_place_entry, quiet_entry}
use Rattle.pocket_core.proofs.entering.enter.Goals as goal

pub enter_put-requires-clause-at : goal.enter_put-requires-clause-at
enter_put-requires-clause-at g c = ap length c.as_slice.ensures.value ∙ ap length (sym c.make_place.ensures.items)

pub returns-in-Ok-clause-entry : goal.returns-in-Ok-clause-entry
returns-in-Ok-clause-entry g c = λ put planned.
    subst
    (λ works.
    Entry c.args.ask (whole_of c.args.ask c.args.rest) c.args.plan.display put
    (record {
      world = c.args.tables.now.world;
      history = works;
      bytes = c.args.costs.now;
      rows = g.K.Committer.rows c.args.keeper.now;
      faults = g.K.Committer.faults c.args.keeper.now;
    })
    (record {
      world = c.enter_put.new.tables.world;
      history = c.enter_put.new.journal.items;
      bytes = c.enter_put.new.costs;
      rows = g.K.Committer.rows c.enter_put.new.keeper;
      faults = g.K.Committer.faults c.enter_put.new.keeper;
    })
    c.enter_put.result)
    c.make_place.ensures.items (c.enter_put.ensures.entry put planned)

pub returns-in-Ok-clause-unasked : goal.returns-in-Ok-clause-unasked
returns-in-Ok-clause-unasked g c = λ put planned.
    quiet_entry c.args.ask c.args.rest c.args.plan.display put c.args.tables.now.world c.args.journal.now.items c.args.costs.now
    (g.K.Committer.rows c.args.keeper.now) (g.K.Committer.faults c.args.keeper.now) _ (ap length c.as_slice.ensures.value) c.enter_put.result c.in-Ok.ensures.room
    c.enter_put.new.tables.world (g.K.Committer.rows c.args.keeper.now) (g.K.Committer.faults c.args.keeper.now) (λ none. none) (omega arith) _
    (c.enter_put.ensures.unasked put planned)

pub returns-in-Err-clause-entry : goal.returns-in-Err-clause-entry
returns-in-Err-clause-entry g c = λ put planned.
    no_place_entry c.args.ask c.args.rest c.args.plan.display put c.args.tables.now.world c.args.journal.now.items c.args.costs.now
    (g.K.Committer.rows c.args.keeper.now) (g.K.Committer.faults c.args.keeper.now) _ (ap length c.as_slice.ensures.value) c.in-Err.reply c.in-Err.ensures.refused
    c.make_place.new.journal.items c.make_place.ensures.items
