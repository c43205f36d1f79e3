use Rattle.std.proofs.Common.{◌++◌, OnOk, ◌≡◌, true, rules, arith}
use Rattle.sqlite.specs.State.{HasCleanDisk}
use Rattle.sqlite.specs.Held.{state}
use Rattle.pocket_sqlite.specs.Writing.{deletions, insertions, HaveBeenKept, HaveRun, IsUncommitted}
use Rattle.pocket_sqlite.specs.declared.table.TheConstants.{DELETE, PUT}
use Rattle.pocket_sqlite.proofs.WritingLemmas.{run_both, kept_commit, uncommitted_begun, uncommitted_then, refused_commit}
use Rattle.pocket_sqlite.proofs.table.write_rows.Goals as goal

pub returns-clause-undone : goal.returns-clause-undone
returns-clause-undone g c =
    let begun = c.transaction-writing.ensures.begun in
    let old = state g.S.Store c.args.database.now in
    let start = state g.S.Store c.transaction-writing.result.conn.now in
    let cut = state g.S.Store c.cut_all.new.writing.conn.now in
    let put = state g.S.Store c.put_all.new.writing.conn.now in
    let end = c.commit.new.self.0 in
    let on : c.transaction-writing.result.conn.now.in_transaction ≡ true = search rules in
    let written : IsUncommitted start put = uncommitted_then start cut put c.cut_all.ensures.uncommitted c.put_all.ensures.uncommitted in
    let from : IsUncommitted old put = uncommitted_begun g.S.Store c.args.database.now put (rw begun at written) in
    let goes : HasCleanDisk put → put.in_transaction ≡ true =
    λ clean. c.in_ok-put_all.ensures.goes_on (c.in_ok-cut_all.ensures.goes_on on (c.put_all.ensures.uncommitted.clean clean)) clean in
    let back : HasCleanDisk (state g.S.Store end) → HasCleanDisk put = λ clean. omega (arith, c.commit.ensures.survives.clean) in
    let refused = refused_commit old put (state g.S.Store end) c.commit.result from goes back c.commit.ensures.err in
    search (rules, refused)

pub returns-clause-kept : goal.returns-clause-kept
returns-clause-kept g c =
    let begun = c.transaction-writing.ensures.begun in
    let old = c.args.database.now in
    let start = c.transaction-writing.result.conn.now in
    let cut = c.cut_all.new.writing.conn.now in
    let put = c.put_all.new.writing.conn.now in
    let end = c.commit.new.self.0 in
    let cuts = deletions DELETE.now c.args.cuts.now in
    let puts = insertions PUT.now c.args.puts.now in
    let ran = λ (clean : HasCleanDisk (state g.S.Store put)).
    let all : HaveRun g.S.Store (cuts ++ puts) start put =
    run_both g.S.Store cuts puts start cut put (c.in_ok-cut_all.ensures.ran (c.put_all.ensures.uncommitted.clean clean)) (c.in_ok-put_all.ensures.ran clean) in
    let since : HaveRun g.S.Store (cuts ++ puts) (record old { in_transaction = true }) put = rw begun at all in since in
    let kept : HasCleanDisk (state g.S.Store end) → OnOk c.commit.result (HaveBeenKept g.S.Store (cuts ++ puts) old end) =
    λ clean. kept_commit g.S.Store (cuts ++ puts) old put end c.commit.result (ran (omega (arith, c.commit.ensures.survives.clean, clean))) (c.commit.ensures.ok clean) in
    search (rules, kept)
