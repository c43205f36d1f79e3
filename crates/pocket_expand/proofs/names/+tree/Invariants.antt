use Rattle.std.proofs.Common.{◌≡◌, ◌++◌, ◌+◌, ◌*◌}
use Rattle.std.specs.Prelude.{filter_map}
use Rattle.pocket_expand.specs.Names.{branch_of, tree_of}
use Rattle.pocket_expand.proofs.names.+tree.Given as goal

abbrev pub decreases-branches_of : goal.decreases-branches_of
decreases-branches_of l = 2 * l.depth

abbrev pub decreases-branches_in : goal.decreases-branches_in
decreases-branches_in l = 2 * l.depth + 1

abbrev pub invariant-branches_in-loop-name : goal.invariant-branches_in-loop-name
invariant-branches_in-loop-name l = (l.fn.groups.entries ≡ l.yielded ++ l.name-iterator) × (l.branches ≡ filter_map (branch_of (tree_of l.depth)) l.yielded)
