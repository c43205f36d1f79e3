-- What follows a front of a text.
use Rattle.std.specs.Prelude.{◌==◌, ℕ, List, [], ◌∷◌, Option, Some, None, if◌then◌else◌}

-- what follows a front; none where the text doesn't begin with it
abbrev pub behind : List ℕ → List ℕ → Option (List ℕ)
behind [] text = Some text
behind (a ∷ front) [] = None
behind (a ∷ front) (b ∷ text) = if a == b then behind front text else None

-- the same of a text that may have ended in a difference
abbrev pub then_behind : List ℕ → Option (List ℕ) → Option (List ℕ)
then_behind front None = None
then_behind front (Some text) = behind front text
