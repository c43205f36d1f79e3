-- What tries one after the other come to.
use Rattle.std.proofs.Common.{◌≡◌, inl, inr, ◌<◌, ◌+◌, ◌-◌, ℕ, suc, Option, Some, None, refl, sym, subst, arith}
use Rattle.pocket.specs.Listening.{GivesWithin}

module _ {L S : Type 0} (gives : L → Option S → L → Type 0) (tries at : ℕ) (within : at < tries) (old : L) where
  one_more : tries - at ≡ suc (tries - (at + 1))
  one_more = omega (arith, within)

  -- the next try gives a stream
  pub gave : (stream : S) (new : L) → gives old (Some stream) new → GivesWithin gives (tries - at) old (Some stream) new
  gave stream new it = subst (λ n. GivesWithin gives n old (Some stream) new) (sym one_more) (inl (stream, refl, it))

  -- the next try gives none, and the others come to this
  pub gave_none : (middle : L) (given : Option S) (new : L) → gives old None middle → GivesWithin gives (tries - (at + 1)) middle given new
      → GivesWithin gives (tries - at) old given new
  gave_none middle given new none others = subst (λ n. GivesWithin gives n old given new) (sym one_more) (inr (middle, none, others))
