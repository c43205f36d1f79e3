use Rattle.pocket_rows.proofs.CellLemmas.{empty_text, filled_text, empty_date, some_date, no_date}
use Rattle.pocket_rows.proofs.scalars.date_of_text.Goals as goal

pub returns-then-is_empty-clause-date : goal.returns-then-is_empty-clause-date
returns-then-is_empty-clause-date c = empty_date c.args.text.now (empty_text c.args.text.now c.is_empty.result c.is_empty.ensures c.if-is_empty.true)

pub returns-in-Some-clause-date : goal.returns-in-Some-clause-date
returns-in-Some-clause-date c = some_date c.args.text.now c.in-Some.moment c.in-Some.ensures.value c.in-Some.ensures.forms.4

pub returns-in-None-clause-date : goal.returns-in-None-clause-date
returns-in-None-clause-date c = no_date c.args.text.now c.in-None.ensures.value (filled_text c.args.text.now c.is_empty.result c.is_empty.ensures c.if-is_empty.false)
