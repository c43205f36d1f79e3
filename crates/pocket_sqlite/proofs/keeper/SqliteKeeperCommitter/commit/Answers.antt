use Rattle.pocket_sqlite.proofs.WritingLemmas.{err_mapped}
use Rattle.pocket_sqlite.proofs.keeper.SqliteKeeperCommitter.commit.Goals as goal

pub returns-clause-undone : goal.returns-clause-undone
returns-clause-undone c =
    err_mapped _ c.write_rows-written.result c.map_err-answer.result c.map_err-answer.ensures.variant c.write_rows-written.ensures.undone
