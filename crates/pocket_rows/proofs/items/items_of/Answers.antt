use Rattle.std.proofs.lemmas.Result.{IfOk-weaker}
use Rattle.pocket_rows.proofs.CellLemmas.{SeveralRead, ItemsRead, several-read}
use Rattle.pocket_rows.proofs.items.items_of.Goals as goal

pub returns-then-most-gt1 : goal.returns-then-most-gt1
returns-then-most-gt1 c =
    IfOk-weaker c.several_of.result (SeveralRead c.args.tree.now) (ItemsRead c.args.most c.args.tree.now) (several-read c.args.most c.args.tree.now c.if-most-gt1.true) c.several_of.ensures
