use Rattle.std.proofs.Common.{◌≡◌, length, drop}
use Rattle.pocket_ops.specs.Trees.{put_cells}
use Rattle.pocket_ops.proofs.rec_trees.put_cells.Given as goal

-- what is left of the cells, put to the members so far
abbrev pub invariant-loop-field : goal.invariant-loop-field
invariant-loop-field l =
    put_cells l.hidden l.fields l.cells l.initial.members.entries ≡ put_cells l.hidden (drop (length l.yielded) l.fields) (drop (length l.yielded) l.cells) l.members.entries
