use Rattle.pocket_ops.proofs.LengthLemmas.{no_date_len}
use Rattle.pocket_ops.proofs.row_lengths.date_len.Goals as goal

pub returns-in-None : goal.returns-in-None
returns-in-None c = no_date_len c.args.date.now c.in-None.is
