use Rattle.pocket_rows.proofs.ReadLemmas.{ReadSo}
use Rattle.pocket_rows.specs.FieldReading.{field_read}
use Rattle.pocket_rows.proofs.fields.listed.Given as goal

abbrev pub invariant-loop-tree : goal.invariant-loop-tree
invariant-loop-tree l = ReadSo field_read l.trees l.tree-index l.fields.items
