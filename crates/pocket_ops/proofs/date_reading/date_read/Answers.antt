use Rattle.std.proofs.Common.{◌∙◌, ap}
use Rattle.pocket_ops.specs.DateReading.{date_of}
use Rattle.pocket_ops.proofs.ReadDates.{forms}
use Rattle.pocket_ops.proofs.date_reading.date_read.Goals as goal

pub returns-clause-forms : goal.returns-clause-forms
returns-clause-forms c = forms c.args.text.now c.read_date.result (c.read_date.ensures ∙ ap date_of c.as_bytes.ensures.value)
