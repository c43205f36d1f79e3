use Rattle.std.proofs.Common.{◌∙◌, ap, refl, subst, sym, ◌≤◌, ◌+◌, ◌∷◌, [], ◌++◌}
use Rattle.pocket_core.specs.Callers.{whole_of}
use Rattle.pocket_core.proofs.EnterLemmas.{has_room}
use Rattle.pocket_core.proofs.KeepLemmas.{not_put_entry, put_entry}
use Rattle.pocket_core.proofs.entering.enter_put.Goals as goal

pub enter_work-requires-clause-room : goal.enter_work-requires-clause-room
enter_work-requires-clause-room g c =
    subst (λ work. c.args.costs.now + work.cost ≤ 268435456) (sym c.put_together.ensures)
    (has_room (record { entries = c.args.at; bytes = c.args.costs.now }) (whole_of c.args.ask c.args.rest) c.requires.room)

pub returns-in-Ok-clause-entry : goal.returns-in-Ok-clause-entry
returns-in-Ok-clause-entry g c = λ put planned.
    put_entry c.args.ask c.args.rest c.args.plan.display put c.args.tables.now.world c.args.journal.now.items c.args.costs.now
    (g.K.Committer.rows c.args.keeper.now) (g.K.Committer.faults c.args.keeper.now) c.args.at c.requires.at c.in-Ok.reply c.requires.room
    c.put_rec.new.tables.world (g.K.Committer.rows c.put_rec.new.keeper) (g.K.Committer.faults c.put_rec.new.keeper) c.put_rec.ensures.untold c.put_rec.ensures.later
    (c.in-Ok.ensures.put put planned) c.in-Ok.ensures.spared c.enter_work.new.journal.items
    (c.enter_work.ensures.history ∙ ap (λ work. c.args.journal.now.items ++ work ∷ []) c.put_together.ensures) c.enter_work.new.costs
    (c.enter_work.ensures.bytes ∙ ap (λ work. c.args.costs.now + work.cost) c.put_together.ensures)

pub returns-in-Err-clause-entry : goal.returns-in-Err-clause-entry
returns-in-Err-clause-entry g c = λ put planned.
    not_put_entry c.args.ask c.args.rest c.args.plan.display put c.args.tables.now.world c.args.journal.now.items c.args.costs.now
    (g.K.Committer.rows c.args.keeper.now) (g.K.Committer.faults c.args.keeper.now) c.args.at c.requires.at c.in-Err.reply c.requires.room
    c.put_rec.new.tables.world (g.K.Committer.rows c.put_rec.new.keeper) (g.K.Committer.faults c.put_rec.new.keeper) c.put_rec.ensures.untold c.put_rec.ensures.later
    (c.in-Err.ensures.refused put planned) c.args.journal.now.items refl
