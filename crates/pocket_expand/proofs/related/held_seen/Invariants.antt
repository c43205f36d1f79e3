use Rattle.std.proofs.Common.{◌≡◌, ◌≤◌, map, take}
use Rattle.std.specs.Prelude.{filter_map}
use Rattle.pocket_types.specs.Callers.{is_admin}
use Rattle.pocket_gate.specs.Seen.{seen_world}
use Rattle.pocket_gate.specs.Shown.{member_at}
use Rattle.pocket_expand.specs.Met.{member_seen}
use Rattle.pocket_expand.proofs.related.held_seen.Given as goal

abbrev pub invariant-loop-id : goal.invariant-loop-id
invariant-loop-id g l = record {
  members : map (member_seen (is_admin l.ask.caller)) l.found.items ≡ filter_map (member_at (seen_world l.tables.world l.ask) l.target) (take l.id-index l.ids);
  steps : l.fn.steps ≤ l.steps;
}
