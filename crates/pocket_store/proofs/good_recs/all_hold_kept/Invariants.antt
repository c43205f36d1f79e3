use Rattle.std.proofs.Common.{length, drop}
use Rattle.pocket_store.specs.Stores.{AllHoldKept}
use Rattle.pocket_store.proofs.good_recs.all_hold_kept.Given as goal

-- the cells so far hold what is kept: all do where those that are left do, and these do where all do
abbrev pub invariant-loop-field : goal.invariant-loop-field
invariant-loop-field l = record {
  back : AllHoldKept l.rows (drop (length l.yielded) l.fields) (drop (length l.yielded) l.cells) → AllHoldKept l.rows l.fields l.cells;
  on : AllHoldKept l.rows l.fields l.cells → AllHoldKept l.rows (drop (length l.yielded) l.fields) (drop (length l.yielded) l.cells);
}
