-- Lists without repeats.
use Rattle.std.specs.Prelude.{ℕ, not, List, [], ◌∷◌, filter}
use Rattle.std.specs.Str.{bytes_eq}

-- each text once, at its first place
abbrev pub once : List (List ℕ) → List (List ℕ)
once [] = []
once (x ∷ xs) = x ∷ filter (λ y. not (bytes_eq x y)) (once xs)
