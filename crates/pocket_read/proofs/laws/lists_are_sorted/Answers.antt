use Rattle.std.proofs.Common.{map}
use Rattle.pocket_read.specs.Sorting.{key_of, stands_before}
use Rattle.pocket_read.proofs.Orders.{key_order}
use Rattle.pocket_read.proofs.Sorted.{same_items, sorted_in_order}
use Rattle.pocket_read.proofs.laws.lists_are_sorted.Goals as goal

pub returns-clause-same : goal.returns-clause-same
returns-clause-same c w ask home terms recs = same_items (stands_before terms) (key_order terms) (map (key_of w ask home terms) recs)

pub returns-clause-order : goal.returns-clause-order
returns-clause-order c w ask home terms recs = sorted_in_order (stands_before terms) (key_order terms) (map (key_of w ask home terms) recs)
