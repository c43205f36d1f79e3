use Rattle.pocket_ops.proofs.TreeLemmas.{three_more}
use Rattle.pocket_ops.proofs.collection_trees.push_named.Goals as goal

pub returns : goal.returns
returns c = three_more _ _ _ _ _ _ _ (rw c.as_str.ensures.text at c.in_ok-push_text.ensures) c.in_ok-push_flag.ensures c.in_ok-push_text-2.ensures
