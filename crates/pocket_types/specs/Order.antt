-- The order of the bytes of texts, names and ids.
use Rattle.std.specs.Prelude.{◌≡◌, ℕ, List, Bool, AllPairs}
use Rattle.std.specs.Cmp.Lexicographic.{slice_cmp}
use Rattle.std.specs.Ordering.{nat_cmp, is_lt}
use Rattle.std.specs.declared.cmp.Ordering.TheVariants.{Less}

-- a stands before b
abbrev pub IsBefore : List ℕ → List ℕ → Type 0
IsBefore a b = slice_cmp nat_cmp a b ≡ Less

-- whether a stands before b
abbrev pub is_before : List ℕ → List ℕ → Bool
is_before a b = is_lt (slice_cmp nat_cmp a b)

-- each key stands before those of all later items
abbrev pub Rises : {T : Type 0} → (T → List ℕ) → List T → Type 0
Rises key items = AllPairs (λ x y. IsBefore (key x) (key y)) items
