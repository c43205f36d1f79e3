use Rattle.std.proofs.Common.{ℕ, [], ◌∷◌, Ok, rules}
use Rattle.sqlite_value.specs.declared.value.Value.TheVariants.{Text}
use Rattle.sqlite.specs.State.{HasCleanDisk, Executes}
use Rattle.sqlite.specs.Held.{state}
use Rattle.pocket_sqlite.specs.declared.table.TheConstants.{DELETE}
use Rattle.pocket_sqlite.proofs.WritingLemmas.{run_next}
use Rattle.pocket_sqlite.proofs.table.cut_all.Goals as goal

pub loop-key-preserved : goal.loop-key-preserved
loop-key-preserved g c =
    let mid = c.loop-key.writing.conn.now in
    let new = c.run.new.writing.conn.now in
    let one = λ (clean : HasCleanDisk (state g.S.Store new)).
    let run : (count : ℕ) × Executes DELETE.now (Text c.key-item.result ∷ []) (state g.S.Store mid) (state g.S.Store new) (Ok count) =
    rw (c.params-to_sql.ensures, c.as_str.ensures) at (c.in_ok-run.ensures.ran clean) in run in
    let ran = λ (clean : HasCleanDisk (state g.S.Store new)).
    run_next g.S.Store (λ key. (DELETE.now, Text key ∷ [])) c.args.cuts.now c.loop-key.key-index c.key-item.result c.args.writing.now.conn.now mid new
    c.loop-key-test.true c.key-item.is (c.loop-key.invariant.ran (c.run.ensures.uncommitted.clean clean)) (one clean) in
    search (rules, ran)
