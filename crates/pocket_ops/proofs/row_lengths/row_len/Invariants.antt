use Rattle.std.proofs.Common.{◌≡◌, ◌+◌, length, drop}
use Rattle.pocket_types.specs.Json.{printed}
use Rattle.pocket_ops.specs.Lengths.{held}
use Rattle.pocket_types.specs.Maps.{map_jv}
use Rattle.pocket_ops.specs.Trees.{date_members}
use Rattle.pocket_ops.proofs.LengthLemmas.{cells_len}
use Rattle.pocket_ops.proofs.row_lengths.row_len.Given as goal

-- what is left of the cells, added to the length so far
abbrev pub invariant-loop-field : goal.invariant-loop-field
invariant-loop-field l =
    (held l.len ≡ l.len)
    × (held (l.len + cells_len (drop (length l.yielded) l.collection.fields) (drop (length l.yielded) l.rec.cells)) ≡ held (length (printed (map_jv (date_members l.rec))) + cells_len l.collection.fields l.rec.cells))
