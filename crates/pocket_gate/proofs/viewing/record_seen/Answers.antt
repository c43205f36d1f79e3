use Rattle.std.proofs.Common.{ap, ◌∙◌}
use Rattle.std.proofs.lemmas.Result.{IfOk-weaker}
use Rattle.pocket_resolve.specs.Fields.{collection_named}
use Rattle.pocket_gate.proofs.ShownLemmas.{member_found, named_again}
use Rattle.pocket_gate.proofs.viewing.record_seen.Goals as goal

pub if_viewable-requires-clause-there : goal.if_viewable-requires-clause-there
if_viewable-requires-clause-there g c = named_again _ _ _ (c.in-Some.ensures ∙ ap (λ cs. collection_named cs c.args.name.now) c.collections.ensures.collections)

pub returns-in-Some-rec-clause-member : goal.returns-in-Some-rec-clause-member
returns-in-Some-rec-clause-member g c =
    let there = c.in-Some.ensures ∙ ap (λ cs. collection_named cs c.args.name.now) c.collections.ensures.collections in
    IfOk-weaker c.if_viewable.result _ _
    (λ found is. member_found c.args.tables.now.world c.args.ask.now c.args.name.now c.args.id c.in-Some.collection.now c.in-Some-rec.rec.now found c.collections.ensures.tabled there c.in-Some-rec.ensures.rec is)
    c.if_viewable.ensures.member
