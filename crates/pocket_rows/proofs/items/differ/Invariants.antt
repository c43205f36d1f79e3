use Rattle.std.proofs.Common.{take}
use Rattle.pocket_rows.proofs.DifferLemmas.{Holds}
use Rattle.pocket_rows.proofs.items.differ.Given as goal

abbrev pub invariant-loop-item : goal.invariant-loop-item
invariant-loop-item l = Holds l.seen (take l.item-index l.items)
