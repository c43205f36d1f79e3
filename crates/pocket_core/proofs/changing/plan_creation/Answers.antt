use Rattle.std.proofs.Common.{◌≡◌, Ok, Err, IfSome, subst, sym}
use Rattle.std.specs.Prelude.{◌≢◌}
use Rattle.pocket_types.specs.Profile.{IsProfiled}
use Rattle.pocket_tables.specs.Worlds.{collection_at}
use Rattle.pocket_change.specs.Answers.{Gives}
use Rattle.pocket_change.specs.Changes.{creation}
use Rattle.pocket_api.specs.Refusals.{because}
use Rattle.pocket_api.specs.declared.why.Why.TheVariants as why
use Rattle.pocket_core.specs.Changing.{created_in}
use Rattle.pocket_core.proofs.PlanLemmas.{creation_nowhere, creation_planned, creation_refused, is_there, profile_of}
use Rattle.pocket_core.proofs.changing.plan_creation.Goals as goal

pub returns-in-Err-clause-plan : goal.returns-in-Err-clause-plan
returns-in-Err-clause-plan g c =
    let w = c.args.tables.now.world in
    let body = c.args.body.now in
    λ known. creation_nowhere w c.args.ask.now c.args.collection.now body c.args.words c.in-Err.why c.in-Err.ensures known

pub plan_create-requires-clause-there : goal.plan_create-requires-clause-there
plan_create-requires-clause-there g c = is_there c.args.tables.now.world c.args.collection.now c.in-Ok.name c.in-Ok.ensures

pub returns-in-Ok-plan_create-clause-plan : goal.returns-in-Ok-plan_create-clause-plan
returns-in-Ok-plan_create-clause-plan g c =
    let w = c.args.tables.now.world in
    let body = c.args.body.now in
    let tree = c.body_tree-body.ensures.tree in
    let profile = subst (λ b. IfSome b IsProfiled) tree (profile_of c.body_tree-body.result c.body_tree-body.ensures.profile) in
    let gives = subst (λ b. IfSome (collection_at w c.in-Ok.name) (λ d. Gives (Ok c.in-Ok-plan_create.delta) (creation w c.args.ask.now d b c.args.words))) tree c.in-Ok-plan_create.ensures.delta in
    creation_planned w c.args.ask.now c.args.collection.now body c.args.words c.in-Ok.name c.in-Ok.ensures c.created_records_may_be_put.ensures c.requires.sound c.millis-millis.ensures.range profile c.plan_create.new.tables
    c.in-Ok-plan_create.delta c.plan_create.ensures.world gives c.in-Ok-plan_create.ensures.ready

pub returns-clause-plan : goal.returns-clause-plan
returns-clause-plan g c =
    let w = c.args.tables.now.world in
    let body = c.args.body.now in
    let tree = c.body_tree-body.ensures.tree in
    let gives = subst (λ b. IfSome (collection_at w c.in-Ok.name) (λ d. Gives (Err c.in-Err-plan_create.fault) (creation w c.args.ask.now d b c.args.words))) tree c.in-Err-plan_create.ensures.delta in
    λ known.
    subst (λ cause. cause ≢ why.Memory → created_in w c.args.ask.now c.args.collection.now body c.args.words ≡ Err (because cause)) (sym c.change_why.ensures)
    (λ told. creation_refused w c.args.ask.now c.args.collection.now body c.args.words c.in-Ok.name c.in-Ok.ensures c.in-Err-plan_create.fault gives told) known
