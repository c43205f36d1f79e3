use Rattle.std.proofs.Common.{◌∙◌, ap, Some}
use Rattle.pocket_types.specs.Names.{IsMoment}
use Rattle.pocket_ops.specs.Calendar.{civil_millis}
use Rattle.pocket_ops.proofs.DigitLemmas.{IsUtf8-civil_text}
use Rattle.pocket_ops.proofs.PrintedDates.{date_of-civil}
use Rattle.pocket_ops.proofs.date_texts.date_text.Goals as goal

pub returns-clause-read : goal.returns-clause-read
returns-clause-read c =
    let range : IsMoment (civil_millis c.civil_of.result) = rw c.civil_of.ensures.millis c.civil_of.ensures.range in
    rw c.civil_text.ensures (date_of-civil c.civil_of.result c.civil_of.ensures.civil range ∙ ap Some c.civil_of.ensures.millis)

pub returns-clause-utf8 : goal.returns-clause-utf8
returns-clause-utf8 c = rw c.civil_text.ensures (IsUtf8-civil_text c.civil_of.result c.civil_of.ensures.civil)
