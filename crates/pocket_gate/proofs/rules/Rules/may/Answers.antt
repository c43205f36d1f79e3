use Rattle.std.proofs.Common.{◌≡◌, true, false, ap, sym, ◌∙◌}
use Rattle.std.specs.Prelude.{option_map}
use Rattle.pocket_types.specs.Callers.{is_admin}
use Rattle.pocket_types.specs.Within.{collections_of}
use Rattle.pocket_resolve.specs.Fields.{collection_named}
use Rattle.pocket_plan.specs.Cutting.{view_named}
use Rattle.pocket_gate.specs.Built.{views_for, views_in}
use Rattle.pocket_gate.proofs.Tests.{admin_verdict, test_there, verdict_found, views_in-rules_of}
use Rattle.pocket_gate.proofs.rules.Rules.may.Goals as goal

pub returns-then-is_admin-clause-verdict : goal.returns-then-is_admin-clause-verdict
returns-then-is_admin-clause-verdict g c =
    let w = c.args.tables.now.world in
    let admin : is_admin c.args.ask.now.caller ≡ true = cc in
    admin_verdict w c.args.ask.now c.args.action c.args.rec.now admin (collection_named (collections_of w) c.args.collection.now)

pub unreachable-requires : goal.unreachable-requires
unreachable-requires g c =
    let cs = collections_of c.args.tables.now.world in
    let same : c.views.result.now ≡ views_for cs c.args.action =
    c.views.ensures ∙ ap (λ rules. views_in rules c.args.action) c.requires.rules ∙ views_in-rules_of cs c.args.action in
    test_there cs c.args.action c.args.collection.now c.requires.there
    (ap (option_map (λ x. x.now)) (sym c.in-None.is) ∙ c.test_named.ensures ∙ ap (λ vs. option_map (λ v. v.test) (view_named c.args.collection.now vs)) same)

pub returns-clause-verdict : goal.returns-clause-verdict
returns-clause-verdict g c =
    let cs = collections_of c.args.tables.now.world in
    let other : is_admin c.args.ask.now.caller ≡ false = cc in
    let same : c.views.result.now ≡ views_for cs c.args.action =
    c.views.ensures ∙ ap (λ rules. views_in rules c.args.action) c.requires.rules ∙ views_in-rules_of cs c.args.action in
    verdict_found c.args.tables.now.world c.args.ask.now c.args.action c.args.collection.now c.args.rec.now c.in-Some.test.now c.verdict_of.result other
    (ap (option_map (λ x. x.now)) (sym c.in-Some.is) ∙ c.test_named.ensures ∙ ap (λ vs. option_map (λ v. v.test) (view_named c.args.collection.now vs)) same)
    c.verdict_of.ensures.verdict
