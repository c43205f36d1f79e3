use Rattle.std.proofs.Common.{ap, map, sym, take, ◌∙◌}
use Rattle.std.proofs.lemmas.Result.{IfOk-weaker}
use Rattle.pocket_types.specs.Callers.{is_admin}
use Rattle.pocket_types.specs.Within.{collections_of}
use Rattle.pocket_resolve.specs.Fields.{collection_named}
use Rattle.pocket_gate.proofs.ShownLemmas.{named_again}
use Rattle.pocket_gate.proofs.Tests.{found_bears_name}
use Rattle.pocket_expand.specs.Met.{member_seen}
use Rattle.pocket_expand.proofs.HolderLemmas.{back_found, no_holders}
use Rattle.pocket_expand.proofs.related.over_back_relation.Goals as goal

pub holders_seen-requires-clause-there : goal.holders_seen-requires-clause-there
holders_seen-requires-clause-there g c = named_again _ _ _ (c.in-Some.ensures ∙ ap (λ cs. collection_named cs c.args.from.now) c.collections.ensures.collections)

pub returns-in-Some-clause-members : goal.returns-in-Some-clause-members
returns-in-Some-clause-members g c =
    let w = c.args.tables.now.world in
    let there = c.in-Some.ensures ∙ ap (λ cs. collection_named cs c.args.from.now) c.collections.ensures.collections in
    let k = c.in-Some.from.now in
    IfOk-weaker c.holders_seen.result _ _
    (λ found is. back_found w c.args.ask.now c.args.from.now c.args.field.now k c.args.collection.now c.args.rec.now found.items c.collections.ensures.tabled
    (found_bears_name (collections_of w) c.args.from.now k (sym there)) (named_again (collections_of w) c.args.from.now k there) is)
    c.holders_seen.ensures.members

pub returns-in-None-clause-members : goal.returns-in-None-clause-members
returns-in-None-clause-members g c =
    let w = c.args.tables.now.world in
    let none = c.in-None.ensures ∙ ap (λ cs. collection_named cs c.args.from.now) c.collections.ensures.collections in
    ap (map (member_seen (is_admin c.args.ask.now.caller))) c.new.ensures.items
    ∙ sym (ap (take 1000) (no_holders w c.args.ask.now c.args.from.now c.args.field.now c.args.collection.now c.args.rec.now none))
