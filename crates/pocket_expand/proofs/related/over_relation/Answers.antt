use Rattle.std.proofs.Common.{Some, ap, map, sym, ◌∙◌}
use Rattle.std.specs.Prelude.{filter_map}
use Rattle.pocket_types.specs.Callers.{is_admin}
use Rattle.pocket_gate.specs.Seen.{seen_world}
use Rattle.pocket_gate.specs.Shown.{member_at}
use Rattle.pocket_expand.specs.Met.{member_seen}
use Rattle.pocket_expand.proofs.RelationLemmas.{related_of, relation_found}
use Rattle.pocket_expand.proofs.related.over_relation.Goals as goal

pub returns-clause-found : goal.returns-clause-found
returns-clause-found g c =
    let whole = is_admin c.args.ask.now.caller in
    let seen = seen_world c.args.tables.now.world c.args.ask.now in
    let target = c.in-Some.target.now in
    let members = c.in_ok-members.members.items in
    ap (λ b. Some (related_of b (map (member_seen whole) members))) c.is_multiple.ensures
    ∙ relation_found seen whole c.args.field.now c.args.cell.now target members (sym c.in-Some.ensures) (c.in_ok-members.ensures.members ∙ ap (filter_map (member_at seen target)) c.ids_in.ensures)
