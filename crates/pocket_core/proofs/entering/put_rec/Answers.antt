use Rattle.std.proofs.Common.{ap, sym, ◌∙◌}
use Rattle.pocket_gate.specs.Built.{rules_of}
use Rattle.pocket_core.proofs.KeepLemmas.{not_put, plan_collections, plan_fits, plan_leads_back, plan_world, put_as, quiet_put, was}
use Rattle.pocket_core.proofs.entering.put_rec.Goals as goal

pub apply-back-requires-clause-fits : goal.apply-back-requires-clause-fits
apply-back-requires-clause-fits g c = plan_fits c.args.tables.now c.requires.plan.0 c.args.plan.delta c.requires.plan.1

pub apply-back-requires-clause-ready : goal.apply-back-requires-clause-ready
apply-back-requires-clause-ready g c = c.requires.plan.1.ready

pub prepare-prepared-requires-clause-rules : goal.prepare-prepared-requires-clause-rules
prepare-prepared-requires-clause-rules g c =
    c.requires.rules
    ∙ ap rules_of
    (sym
    (plan_collections c.args.tables.now c.requires.plan.0 c.args.plan.delta c.requires.plan.1 c.apply-back.new.self.world c.apply-back.ensures.world
    c.requires.tabled))

pub prepare-prepared-requires-clause-back : goal.prepare-prepared-requires-clause-back
prepare-prepared-requires-clause-back g c =
    let back =
    plan_leads_back c.args.tables.now c.requires.plan.0 c.args.plan.delta c.requires.plan.1 c.apply-back.new.self.world c.apply-back.ensures.world
    c.requires.tabled c.deltas_are_made_at_once.ensures c.apply-back.result c.apply-back.ensures.inverse in
    (c.requires.plan.0, was c.args.tables.now.world c.requires.plan.0, back)

pub returns-in-Ok-clause-put : goal.returns-in-Ok-clause-put
returns-in-Ok-clause-put g c = λ put planned.
    let old = c.args.tables.now in
    let now = c.apply-back.new.self.world in
    let back =
    plan_leads_back old put c.args.plan.delta planned now c.apply-back.ensures.world c.requires.tabled c.deltas_are_made_at_once.ensures c.apply-back.result
    c.apply-back.ensures.inverse in
    put_as old.world put c.args.ask.now c.args.plan.display c.args.at c.prepare-prepared.result now
    (plan_world old put c.args.plan.delta planned now c.apply-back.ensures.world)
    (c.prepare-prepared.ensures.prepared put (was old.world put) back)
    (g.K.Committer.rows c.args.keeper.now) (g.K.Committer.rows c.keep.new.keeper) c.in-Ok.reply c.in-Ok.ensures.kept

pub returns-in-Ok-clause-unasked : goal.returns-in-Ok-clause-unasked
returns-in-Ok-clause-unasked g c = λ put planned stands.
    let old = c.args.tables.now in
    let now = c.apply-back.new.self.world in
    let back =
    plan_leads_back old put c.args.plan.delta planned now c.apply-back.ensures.world c.requires.tabled c.deltas_are_made_at_once.ensures c.apply-back.result
    c.apply-back.ensures.inverse in
    quiet_put old.world put c.args.ask.now c.args.plan.display c.args.at c.prepare-prepared.result now
    (plan_world old put c.args.plan.delta planned now c.apply-back.ensures.world)
    (c.prepare-prepared.ensures.prepared put (was old.world put) back) _ c.keep.ensures.unasked stands

pub returns-in-Err-clause-refused : goal.returns-in-Err-clause-refused
returns-in-Err-clause-refused g c = λ put planned.
    let old = c.args.tables.now in
    let now = c.apply-back.new.self.world in
    let back =
    plan_leads_back old put c.args.plan.delta planned now c.apply-back.ensures.world c.requires.tabled c.deltas_are_made_at_once.ensures c.apply-back.result
    c.apply-back.ensures.inverse in
    not_put old.world put c.args.ask.now c.args.plan.display c.args.at c.prepare-prepared.result now
    (plan_world old put c.args.plan.delta planned now c.apply-back.ensures.world)
    (c.prepare-prepared.ensures.prepared put (was old.world put) back) c.apply-again.new.self.world
    (g.K.Committer.rows c.args.keeper.now) (g.K.Committer.rows c.keep.new.keeper) (g.K.Committer.faults c.args.keeper.now)
    (g.K.Committer.faults c.keep.new.keeper) c.in-Err.reply (c.apply-again.ensures.world ∙ c.apply-back.ensures.undone) c.in-Err.ensures.refused

pub returns-in-Err-clause-unasked : goal.returns-in-Err-clause-unasked
returns-in-Err-clause-unasked g c = λ put planned stands.
    let old = c.args.tables.now in
    let now = c.apply-back.new.self.world in
    let back =
    plan_leads_back old put c.args.plan.delta planned now c.apply-back.ensures.world c.requires.tabled c.deltas_are_made_at_once.ensures c.apply-back.result
    c.apply-back.ensures.inverse in
    quiet_put old.world put c.args.ask.now c.args.plan.display c.args.at c.prepare-prepared.result now
    (plan_world old put c.args.plan.delta planned now c.apply-back.ensures.world)
    (c.prepare-prepared.ensures.prepared put (was old.world put) back) _ c.keep.ensures.unasked stands
