use Rattle.std.proofs.Common.{◌≡◌, ◌≤◌, take, vec_len}
use Rattle.std.specs.Prelude.{vec_capacity}
use Rattle.pocket_keeper.specs.Rows.{IsRising}
use Rattle.pocket_keeper.specs.Keeping.{rows_without}
use Rattle.pocket_keeper.proofs.sorted.cut_all.Given as goal

abbrev pub invariant-loop-key : goal.invariant-loop-key
invariant-loop-key l = record {
  items : l.rows.items ≡ rows_without (take l.key-index l.cuts) l.initial.rows.items;
  rising : IsRising l.rows.items;
  len : vec_len l.rows ≤ vec_len l.initial.rows;
  capacity : vec_capacity l.rows ≡ vec_capacity l.initial.rows;
}
