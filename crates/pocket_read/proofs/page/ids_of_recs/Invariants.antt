use Rattle.std.proofs.Common.{◌≡◌, map, take}
use Rattle.pocket_read.proofs.page.ids_of_recs.Given as goal

abbrev pub invariant-loop-rec : goal.invariant-loop-rec
invariant-loop-rec l = l.ids.items ≡ map (λ r. r.now.id) (take l.rec-index l.recs)
