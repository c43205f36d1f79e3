use Rattle.std.proofs.Common.{sym, subst}
use Rattle.pocket_ops.specs.Searching.{GoesOn, is_later_match}
use Rattle.pocket_ops.specs.declared.likeness.Place.{Place}
use Rattle.std.proofs.Common.{Option, Some}
use Rattle.pocket_ops.proofs.Searches.{goes_back}
use Rattle.pocket_ops.proofs.likeness.go_back.Goals as goal

pub returns : goal.returns
returns c =
    let s = c.args.search in
    let back = c.in-Some.back in
    let text = c.in-Some-split_first.text in
    subst
    (λ (o : Option Place). GoesOn (is_later_match s.anywhere o) (record { here = s.here; back = o; anywhere = s.anywhere })
    (record { here = record { pattern = back.pattern; text = text }; back = Some (record { pattern = back.pattern; text = text }); anywhere = s.anywhere }))
    (sym c.in-Some.is)
    (goes_back s.anywhere s.here back c.in-Some-split_first.field-0-0.now text c.in-Some-split_first.ensures.cases.0)
