use Rattle.pocket_rows.proofs.ReadLemmas.{ReadSo}
use Rattle.pocket_rows.specs.FieldReading.{text_read}
use Rattle.pocket_rows.proofs.items.texts_of.Given as goal

abbrev pub invariant-loop-tree : goal.invariant-loop-tree
invariant-loop-tree l = ReadSo text_read l.trees l.tree-index l.texts.items
