use Rattle.std.proofs.Common.{◌≡◌, ◌&&◌, take}
use Rattle.std.specs.Prelude.{None, find}
use Rattle.std.specs.Str.{bytes_eq}
use Rattle.pocket_plan.specs.Guarded.{is_admitted}
use Rattle.pocket_plan.proofs.admitted.admitted_rec.Given as goal

abbrev pub invariant-loop-rec : goal.invariant-loop-rec
invariant-loop-rec l = find (λ r. bytes_eq r.id l.id && is_admitted l.guarded l.shelf.collection.now.name r) (take l.rec-index l.rec-items) ≡ None
