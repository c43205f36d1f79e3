use Rattle.std.proofs.Common.{arith}
use Rattle.pocket_ops.proofs.LengthLemmas.{no_listed_len, one_listed_len}
use Rattle.pocket_ops.proofs.row_lengths.items_len.Goals as goal

pub returns-in-empty : goal.returns-in-empty
returns-in-empty g c = rw (← g.met.T.Item.texts_are c.args.items.now) (no_listed_len g.T.Item.text c.args.most c.args.items.now (omega arith) (omega arith))

pub returns-in-len1-up : goal.returns-in-len1-up
returns-in-len1-up g c =
    rw (← g.met.T.Item.texts_are c.args.items.now)
    (one_listed_len g.T.Item.text c.args.most c.args.items.now c.text_len.result c.first-item.result c.as_str.result.now (omega arith) (omega arith) c.first-item.is c.as_str.ensures c.text_len.ensures)
