use Rattle.std.proofs.Common.{◌≡◌, Ok, Err, IfSome, subst, sym}
use Rattle.std.specs.Prelude.{◌≢◌}
use Rattle.pocket_types.specs.Profile.{IsProfiled}
use Rattle.pocket_tables.specs.Worlds.{collection_at}
use Rattle.pocket_change.specs.Answers.{Gives}
use Rattle.pocket_change.specs.Changes.{update}
use Rattle.pocket_api.specs.Refusals.{because}
use Rattle.pocket_api.specs.declared.why.Why.TheVariants as why
use Rattle.pocket_core.specs.Changing.{updated_in}
use Rattle.pocket_core.proofs.PlanLemmas.{is_there, profile_of, update_faulted, update_nowhere, update_planned}
use Rattle.pocket_core.proofs.changing.plan_revision.Goals as goal

pub returns-in-Err-clause-plan : goal.returns-in-Err-clause-plan
returns-in-Err-clause-plan g c =
    let w = c.args.tables.now.world in
    let body = c.args.body.now in
    λ known. update_nowhere w c.args.ask.now c.args.target.now body c.in-Err.why c.in-Err.ensures known

pub plan_of_id-requires-clause-there : goal.plan_of_id-requires-clause-there
plan_of_id-requires-clause-there g c = is_there c.args.tables.now.world c.args.target.now.collection c.in-Ok.name c.in-Ok.ensures

pub returns-in-Ok-plan_of_id-clause-plan : goal.returns-in-Ok-plan_of_id-clause-plan
returns-in-Ok-plan_of_id-clause-plan g c =
    let w = c.args.tables.now.world in
    let body = c.args.body.now in
    let tree = c.body_tree-body.ensures.tree in
    let profile = subst (λ b. IfSome b IsProfiled) tree (profile_of c.body_tree-body.result c.body_tree-body.ensures.profile) in
    let gives = subst (λ b. IfSome (collection_at w c.in-Ok.name) (λ d. Gives (Ok c.in-Ok-plan_of_id.delta) (update w c.args.ask.now d c.args.target.now.id b))) tree c.in-Ok-plan_of_id.ensures.delta in
    update_planned w c.args.ask.now c.args.target.now body c.in-Ok.name c.in-Ok.ensures c.updated_records_may_be_put.ensures c.requires.sound c.millis-millis.ensures.range profile c.plan_of_id.new.tables
    c.in-Ok-plan_of_id.delta c.plan_of_id.ensures.world gives c.in-Ok-plan_of_id.ensures.ready

pub returns-clause-plan : goal.returns-clause-plan
returns-clause-plan g c =
    let w = c.args.tables.now.world in
    let body = c.args.body.now in
    let tree = c.body_tree-body.ensures.tree in
    let gives = subst (λ b. IfSome (collection_at w c.in-Ok.name) (λ d. Gives (Err c.in-Err-plan_of_id.fault) (update w c.args.ask.now d c.args.target.now.id b))) tree c.in-Err-plan_of_id.ensures.delta in
    λ known.
    subst (λ cause. cause ≢ why.Memory → updated_in w c.args.ask.now c.args.target.now body ≡ Err (because cause)) (sym c.change_why.ensures)
    (λ told. update_faulted w c.args.ask.now c.args.target.now body c.in-Ok.name c.in-Ok.ensures c.in-Err-plan_of_id.fault gives told) known
