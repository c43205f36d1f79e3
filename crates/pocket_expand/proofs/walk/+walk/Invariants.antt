use Rattle.std.proofs.Common.{◌≡◌, ◌≤◌, map, take}
use Rattle.std.specs.Prelude.{filter_map}
use Rattle.pocket_types.specs.Callers.{is_admin}
use Rattle.pocket_gate.specs.Seen.{seen_world}
use Rattle.pocket_expand.specs.Expansion.{all_under, expands, in_order, member_jv, shown_collection, shown_rec}
use Rattle.pocket_expand.specs.Met.{member_seen}
use Rattle.pocket_expand.proofs.walk.+walk.Given as goal

abbrev pub invariant-found_under-loop-branch : goal.invariant-found_under-loop-branch
invariant-found_under-loop-branch g l = record {
  found : l.found.entries ≡ in_order (all_under (map (expands (seen_world l.tables.world l.ask)) (take l.branch-index l.branches))
      (shown_collection l.ask.caller l.collection) (shown_rec l.ask.caller l.collection l.rec));
  steps : l.fn.steps ≤ l.steps;
}

abbrev pub invariant-member_trees-loop-member : goal.invariant-member_trees-loop-member
invariant-member_trees-loop-member g l = record {
  trees : l.trees ≡ filter_map (member_jv (map (expands (seen_world l.tables.world l.ask)) l.below)) (map (member_seen (is_admin l.ask.caller)) (take l.member-index l.members));
  steps : l.fn.steps ≤ l.steps;
}
