use Rattle.std.proofs.Common.{◌≡◌, map, take}
use Rattle.pocket_ops.specs.Trees.{field_jv}
use Rattle.pocket_ops.proofs.collection_trees.fields_jv.Given as goal

abbrev pub invariant-loop-field : goal.invariant-loop-field
invariant-loop-field l = l.trees ≡ map field_jv (take l.field-index l.fields)
