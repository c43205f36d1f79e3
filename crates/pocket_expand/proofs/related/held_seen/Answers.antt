use Rattle.std.proofs.Common.{map, arith, ap, ◌∙◌, sym}
use Rattle.std.specs.Prelude.{option_map}
use Rattle.pocket_types.specs.Callers.{is_admin}
use Rattle.pocket_meaning.proofs.ListLemmas.{filter_map_more}
use Rattle.pocket_gate.specs.Seen.{seen_world}
use Rattle.pocket_gate.specs.Shown.{member_at}
use Rattle.pocket_expand.specs.Met.{member_seen}
use Rattle.pocket_expand.proofs.LoopLemmas.{held_less, held_more}
use Rattle.pocket_expand.proofs.related.held_seen.Goals as goal
use Rattle.pocket_expand.proofs.related.held_seen.Goals.{in-Some+in_ok-push, in_default}

pub loop-id-preserved : goal.loop-id-preserved
loop-id-preserved g c =
    let whole = is_admin c.args.ask.now.caller in
    let more = filter_map_more (member_at (seen_world c.args.tables.now.world c.args.ask.now) c.args.target.now) _ _ c.id-item.result c.loop-id-test.true c.id-item.is in
    record {
      members = elim c.match-branch-2.branch [
        | in-Some+in_ok-push w ↦ ap (λ v. map (member_seen whole) v.items) w.found-is ∙ ap (map (member_seen whole)) w.in_ok-push.ensures.items
            ∙ held_more whole _ _ _ _ (ap (λ o. option_map (member_seen whole) o) (sym w.in-Some.is) ∙ c.in_ok-member.ensures.member) c.loop-id.invariant.members ∙ sym more
        | in_default w ↦ ap (λ v. map (member_seen whole) v.items) w.found-is
            ∙ held_less whole _ _ _ (ap (λ o. option_map (member_seen whole) o) (sym w.in_default.is) ∙ c.in_ok-member.ensures.member) c.loop-id.invariant.members ∙ sym more
      ];
      steps = omega (arith, c.loop-id.invariant.steps, c.record_seen.ensures.steps);
    }
