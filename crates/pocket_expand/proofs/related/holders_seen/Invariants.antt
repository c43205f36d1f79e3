use Rattle.std.proofs.Common.{◌≡◌, ◌≤◌, ◌++◌, filter, length, map}
use Rattle.pocket_tables.specs.Reads.{is_above, referrers}
use Rattle.pocket_meaning.specs.Members as member
use Rattle.pocket_meaning.specs.Seen.{seen}
use Rattle.pocket_expand.specs.Met.{is_holder}
use Rattle.pocket_expand.proofs.related.holders_seen.Given as goal

-- the records that were found, and those that stand behind the last one that was read
abbrev pub invariant-loop-holder : goal.invariant-loop-holder
invariant-loop-holder g l = record {
  members : map seen l.found.items
      ++ map (member.Record l.from) (filter (is_holder l.tables.world l.ask l.from l.field l.name l.id) (filter (is_above l.after) (referrers l.tables.world l.from.name l.field l.id)))
      ≡ map (member.Record l.from) (filter (is_holder l.tables.world l.ask l.from l.field l.name l.id) (referrers l.tables.world l.from.name l.field l.id));
  few : length l.found.items ≤ 1000;
  steps : l.fn.steps ≤ l.steps;
}

abbrev pub decreases-loop-holder : goal.decreases-loop-holder
decreases-loop-holder g l = length (filter (is_above l.after) (referrers l.tables.world l.from.name l.field l.id))
