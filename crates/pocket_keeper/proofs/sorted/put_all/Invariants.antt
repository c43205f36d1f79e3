use Rattle.std.proofs.Common.{◌≡◌, ◌≤◌, ◌+◌, ◌-◌, length, vec_len}
use Rattle.std.specs.Prelude.{vec_capacity}
use Rattle.pocket_keeper.specs.Rows.{IsRising}
use Rattle.pocket_keeper.specs.Keeping.{rows_with}
use Rattle.pocket_keeper.proofs.sorted.put_all.Given as goal

abbrev pub invariant-loop-row : goal.invariant-loop-row
invariant-loop-row l = record {
  items : l.rows.items ≡ rows_with l.yielded l.initial.rows.items;
  rising : IsRising l.rows.items;
  room : vec_len l.rows + (vec_len l.fn.puts - length l.yielded) ≤ vec_capacity l.rows;
}
