use Rattle.pocket_keeper.specs.Rows.{IsRising}
use Rattle.pocket_sqlite.specs.Reading.{AreRead}
use Rattle.pocket_sqlite.proofs.table.kept_rows.Given as goal

abbrev pub invariant-loop-next : goal.invariant-loop-next
invariant-loop-next l = record {
  read : AreRead l.yielded l.rows;
  rising : IsRising l.rows;
}
