use Rattle.std.proofs.Common.{◌≡◌, ◌≤◌, ◌++◌, length, map}
use Rattle.std.specs.Prelude.{filter}
use Rattle.std.specs.Option.{option_copied}
use Rattle.pocket_tables.specs.Reads.{is_above}
use Rattle.pocket_tables.specs.Worlds.{recs_at}
use Rattle.pocket_read.specs.Pages.{is_wanted, matched}
use Rattle.pocket_read.proofs.listing.recs_matched.Given as goal

-- the records that were found, and those that stand behind the last one that was read
abbrev pub invariant-loop-rec : goal.invariant-loop-rec
invariant-loop-rec g l = record {
  recs : map (λ r. r.now) l.recs.items
      ++ filter (is_wanted l.tables.world l.ask l.collection (option_copied l.plan)) (filter (is_above l.after) (recs_at l.tables.world l.collection.name))
      ≡ matched l.tables.world l.ask l.collection (option_copied l.plan);
  steps : l.fn.steps ≤ l.steps;
}

abbrev pub decreases-loop-rec : goal.decreases-loop-rec
decreases-loop-rec g l = length (filter (is_above l.after) (recs_at l.tables.world l.collection.name))
