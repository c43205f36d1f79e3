use Rattle.std.proofs.Common.{arith, ◌≡◌, List, ℕ, ◌-◌, take, drop, length, ◌∙◌}
use Rattle.std.proofs.lemmas.Grind.{common_steps}
use Rattle.pocket_wire.proofs.Told.{appends_piece}
use Rattle.pocket_wire.proofs.write.write_all.Goals as goal

-- a range up to the end is all that is left
rest_is : (bytes : List ℕ) (at : ℕ) → take (length bytes - at) (drop at bytes) ≡ drop at bytes
rest_is bytes at = grind (arith, common_steps)

pub loop-at-preserved : goal.loop-at-preserved
loop-at-preserved g c = let e = c.in_ok-at.ensures in record {
  in_range = grind (arith, common_steps, e.bound);
  taken = let rest = rest_is c.args.bytes.now c.loop-at.at in let bytes = rw rest at e.bytes in
      appends_piece _ _ _ c.args.bytes.now c.loop-at.at c.in_ok-at.field-0 c.loop-at.invariant.taken bytes;
  untold = λ h. e.untold (c.loop-at.invariant.untold h);
  count = omega (arith, c.loop-at.invariant.count, e.cause.later);
  apart = e.apart ∙ c.loop-at.invariant.apart;
}
