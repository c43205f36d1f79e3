use Rattle.pocket_ops.proofs.TreeLemmas.{three_more}
use Rattle.pocket_ops.proofs.collection_trees.push_bounds.Goals as goal

pub returns : goal.returns
returns c = three_more _ _ _ _ _ _ _ c.in_ok-push_flag.ensures c.in_ok-push_member.ensures c.in_ok-push_member-2.ensures
