use Rattle.pocket_ops.proofs.TreeLemmas.{two_more}
use Rattle.pocket_ops.proofs.collection_trees.push_most.Goals as goal

pub returns : goal.returns
returns c = two_more _ _ _ _ _ c.in_ok-push_flag.ensures c.in_ok-push_num.ensures
