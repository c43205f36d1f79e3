use Rattle.pocket_filter.proofs.TreesRead.{one_tree}
use Rattle.pocket_filter.proofs.reading.trees_are_determined.Goals as goal

pub returns : goal.returns
returns c = one_tree
