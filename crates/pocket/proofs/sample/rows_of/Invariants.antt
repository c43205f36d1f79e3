use Rattle.std.proofs.Common.{◌≡◌, map, take}
use Rattle.pocket.proofs.sample.rows_of.Given as goal

abbrev pub invariant-loop-key : goal.invariant-loop-key
invariant-loop-key l = map (λ row. row.key) l.rows ≡ map (λ pair. pair.0.now) (take l.key-index l.table)
