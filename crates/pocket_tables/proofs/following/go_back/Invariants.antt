use Rattle.std.proofs.Common.{reverse, vec_len}
use Rattle.pocket_tables.specs.Kept.{KeepsReady}
use Rattle.pocket_tables.specs.Following.{LeadTo, world_after_all}
use Rattle.pocket_tables.proofs.following.go_back.Given as goal

abbrev pub invariant-loop-delta : goal.invariant-loop-delta
invariant-loop-delta l = record {
  back : LeadTo l.tables (reverse l.left.items) (world_after_all (reverse l.fn.deltas.items) l.fn.tables.world);
  kept : KeepsReady l.fn.tables l.tables;
}

abbrev pub decreases-loop-delta : goal.decreases-loop-delta
decreases-loop-delta l = vec_len l.left
