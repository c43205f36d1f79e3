use Rattle.pocket_tables.specs.Parts.{ArePartsOf}
use Rattle.pocket_tables.proofs.parts.parts_of.Given as goal

abbrev pub invariant-loop-shelf : goal.invariant-loop-shelf
invariant-loop-shelf l = ArePartsOf l.collections.items l.drawers.items l.yielded
