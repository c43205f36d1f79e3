use Rattle.std.proofs.Common.{refl}
use Rattle.pocket_plan.proofs.guarded.sent_from.Goals as goal

pub returns : goal.returns
returns c =
    let fields = rw c.as_slice.ensures at c.in_ok-field.ensures in
    let body = rw c.as_slice-2.ensures at c.in_ok-sent.ensures in
    rw (← c.in_ok-shelf.ensures, ← fields, ← body) refl
