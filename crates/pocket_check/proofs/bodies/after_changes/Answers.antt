use Rattle.pocket_check.specs.Changes.{cell_by_now}
use Rattle.pocket_check.proofs.ChangeLemmas.{fits_within, within_more}
use Rattle.pocket_check.proofs.bodies.after_changes.Goals as goal

pub after_change-requires-2-clause-room : goal.after_change-requires-2-clause-room
after_change-requires-2-clause-room c =
    let cell = cell_by_now c.args.old.now c.in_ok-now.now in
    within_more 3 cell (within_more 2 cell (c.in_ok-now.ensures.grows 1 (fits_within c.args.field.now.kind c.args.old.now c.requires.fit)))

pub after_change-requires-3-clause-room : goal.after_change-requires-3-clause-room
after_change-requires-3-clause-room c =
    within_more 3 (cell_by_now c.args.old.now c.in_ok-now-2.now) (c.in_ok-now-2.ensures.grows 2 (c.in_ok-now.ensures.grows 1 (fits_within c.args.field.now.kind c.args.old.now c.requires.fit)))

pub after_change-requires-4-clause-room : goal.after_change-requires-4-clause-room
after_change-requires-4-clause-room c =
    c.in_ok-now-3.ensures.grows 3 (c.in_ok-now-2.ensures.grows 2 (c.in_ok-now.ensures.grows 1 (fits_within c.args.field.now.kind c.args.old.now c.requires.fit)))
