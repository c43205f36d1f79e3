use Rattle.std.proofs.Common.{ap, sym, ◌∙◌}
use Rattle.std.specs.Prelude.{option_and_then}
use Rattle.std.proofs.lemmas.Result.{IfOk-weaker}
use Rattle.pocket_gate.specs.Seen.{seen_world}
use Rattle.pocket_gate.specs.Shown.{field_shown}
use Rattle.pocket_expand.specs.Expansion.{of_relation, related_by, shown_collection, shown_rec}
use Rattle.pocket_expand.proofs.RelationLemmas.{forward_is}
use Rattle.pocket_expand.proofs.related.related_by.Goals as goal

pub returns-in-Some-clause-found : goal.returns-in-Some-clause-found
returns-in-Some-clause-found g c =
    let seen = seen_world c.args.tables.now.world c.args.ask.now in
    let who = c.args.ask.now.caller in
    let k = c.args.collection.now in
    let r = c.args.rec.now in
    let name = c.in-Forward.name in
    let there = c.in-Some.ensures ∙ ap (λ b. field_shown b k r name) c.is_admin.ensures in
    IfOk-weaker c.over_relation.result _ _
    (λ found is. is ∙ ap (option_and_then (of_relation seen)) there ∙ sym (forward_is seen who k r name)
    ∙ ap (related_by seen (shown_collection who k) (shown_rec who k r)) (sym c.in-Forward.is)) c.over_relation.ensures.found

pub returns-in-None-clause-found : goal.returns-in-None-clause-found
returns-in-None-clause-found g c =
    let seen = seen_world c.args.tables.now.world c.args.ask.now in
    let who = c.args.ask.now.caller in
    let k = c.args.collection.now in
    let r = c.args.rec.now in
    let name = c.in-Forward.name in
    ap (option_and_then (of_relation seen)) (c.in-None.ensures ∙ ap (λ b. field_shown b k r name) c.is_admin.ensures)
    ∙ sym (forward_is seen who k r name) ∙ ap (related_by seen (shown_collection who k) (shown_rec who k r)) (sym c.in-Forward.is)
