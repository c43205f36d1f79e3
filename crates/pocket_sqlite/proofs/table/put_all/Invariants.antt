use Rattle.std.proofs.Common.{◌≡◌, true, take}
use Rattle.sqlite.specs.State.{HasCleanDisk}
use Rattle.sqlite.specs.Held.{state}
use Rattle.pocket_sqlite.specs.Writing.{insertions, HaveRun, IsUncommitted}
use Rattle.pocket_sqlite.specs.declared.table.TheConstants.{PUT}
use Rattle.pocket_sqlite.proofs.table.put_all.Given as goal

abbrev pub invariant-loop-row : goal.invariant-loop-row
invariant-loop-row g l = record {
  same_reference : l.writing.conn.ghost_name ≡ l.initial.writing.conn.ghost_name;
  uncommitted : IsUncommitted (state g.S.Store l.initial.writing.conn.now) (state g.S.Store l.writing.conn.now);
  goes_on : l.initial.writing.conn.now.in_transaction ≡ true → HasCleanDisk (state g.S.Store l.writing.conn.now) → l.writing.conn.now.in_transaction ≡ true;
  ran : HasCleanDisk (state g.S.Store l.writing.conn.now) → HaveRun g.S.Store (insertions PUT.now (take l.row-index l.puts)) l.initial.writing.conn.now l.writing.conn.now;
}
