-- What one call does to a machine.
use Rattle.std.specs.Prelude.{◌≡◌, ℕ, Bool, ◌||◌, ◌==◌, nat_lt, List, [], ◌∷◌, ◌++◌, ◌⊎◌}

-- the count rose, or it can't rise any more
abbrev pub has_risen : ℕ → ℕ → Bool
has_risen before after = nat_lt before after || (after == 18446744073709551615)

-- the work is added at the end exactly where it enters
abbrev pub AddsWhere : {W : Type 0} → Type 0 → List W → W → List W → Type 0
AddsWhere Enters before work after = (Enters × (after ≡ before ++ work ∷ [])) ⊎ ((¬ Enters) × (after ≡ before))
