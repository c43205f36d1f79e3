use Rattle.std.proofs.Common.{inl, ap, refl}
use Rattle.std.specs.Prelude.{is_some}
use Rattle.pocket_core.proofs.KeepLemmas.{not_kept, rows_alone, rows_committed}
use Rattle.pocket_core.proofs.entering.keep.Goals as goal

pub returns-in_default-row-clause-kept : goal.returns-in_default-row-clause-kept
returns-in_default-row-clause-kept g c = record {
  made = c.in-Ok.prepared;
  prepared_is = c.in-Ok.is;
  said = refl;
  rows = rows_alone (g.K.Committer.rows c.args.keeper.now) c.in-Ok.prepared.row c.in_default-row.is;
}

pub returns-in-Ok-commit_row-clause-kept : goal.returns-in-Ok-commit_row-clause-kept
returns-in-Ok-commit_row-clause-kept g c = record {
  made = c.in-Ok.prepared;
  prepared_is = c.in-Ok.is;
  said = refl;
  rows =
      rows_committed (g.K.Committer.rows c.args.keeper.now) (g.K.Committer.rows c.commit_row.new.keeper) c.in-Ok.prepared.row c.in-Some.row c.in-Some.is
      c.in-Ok-commit_row.ensures.kept;
}

pub returns-in-Ok-commit_row-clause-unasked : goal.returns-in-Ok-commit_row-clause-unasked
returns-in-Ok-commit_row-clause-unasked g c = inl (c.in-Ok.prepared, c.in-Ok.is, ap is_some c.in-Some.is)

pub returns-in-Err-clause-refused : goal.returns-in-Err-clause-refused
returns-in-Err-clause-refused g c =
    not_kept c.args.prepared (g.K.Committer.rows c.args.keeper.now) (g.K.Committer.rows c.commit_row.new.keeper) (g.K.Committer.faults c.args.keeper.now)
    (g.K.Committer.faults c.commit_row.new.keeper) c.args.at c.in-Err.fault c.refuse_unkept.result c.in-Err.ensures.cause.failed c.in-Err.ensures.counts
    (c.in-Ok.prepared, c.in-Ok.is, ap is_some c.in-Some.is) c.in-Err.ensures.as_before c.refuse_unkept.ensures

pub returns-in-Err-clause-unasked : goal.returns-in-Err-clause-unasked
returns-in-Err-clause-unasked g c = inl (c.in-Ok.prepared, c.in-Ok.is, ap is_some c.in-Some.is)
