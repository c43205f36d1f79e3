use Rattle.pocket_rows.proofs.RecLemmas.{moment_read}
use Rattle.pocket_rows.proofs.members.moment_under.Goals as goal

pub returns : goal.returns
returns c = moment_read c.args.key.now c.args.members.now c.in_ok-text.text.now c.date_read.result c.in_ok-text.ensures c.date_read.ensures.value c.date_read.ensures.forms
