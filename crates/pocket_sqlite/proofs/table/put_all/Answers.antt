use Rattle.std.proofs.Common.{ℕ, [], ◌∷◌, Ok, rules}
use Rattle.sqlite_value.specs.declared.value.Value.TheVariants.{Text}
use Rattle.sqlite.specs.State.{HasCleanDisk, Executes}
use Rattle.sqlite.specs.Held.{state}
use Rattle.pocket_sqlite.specs.declared.table.TheConstants.{PUT}
use Rattle.pocket_sqlite.proofs.WritingLemmas.{run_next}
use Rattle.pocket_sqlite.proofs.table.put_all.Goals as goal

pub loop-row-preserved : goal.loop-row-preserved
loop-row-preserved g c =
    let row = c.row-item.result in
    let mid = c.loop-row.writing.conn.now in
    let new = c.run.new.writing.conn.now in
    let one = λ (clean : HasCleanDisk (state g.S.Store new)).
    let run : (count : ℕ) × Executes PUT.now (Text row.key ∷ Text row.value ∷ []) (state g.S.Store mid) (state g.S.Store new) (Ok count) =
    rw (c.params-to_sql.ensures, c.params-to_sql-in-loop-row.ensures, c.as_str.ensures, c.as_str-in-loop-row.ensures) at (c.in_ok-run.ensures.ran clean) in run in
    let ran = λ (clean : HasCleanDisk (state g.S.Store new)).
    run_next g.S.Store (λ row. (PUT.now, Text row.key ∷ Text row.value ∷ [])) c.args.puts.now c.loop-row.row-index row c.args.writing.now.conn.now mid new
    c.loop-row-test.true c.row-item.is (c.loop-row.invariant.ran (c.run.ensures.uncommitted.clean clean)) (one clean) in
    search (rules, ran)
