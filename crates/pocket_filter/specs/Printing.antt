-- What the printer asks of a tree. Only contracts inside this crate speak of it.
use Rattle.std.specs.Prelude.{ℕ, Bool, true, false, List, [], ◌∷◌, ◌++◌}
use Rattle.pocket_types.specs.declared.expr.Expr.{Expr}
use Rattle.pocket_filter.specs.Printed.{Top, comparison, conjunction, disjunction, piece_of}

-- what stands at the top of a tree
abbrev pub top_of : Expr → Top
top_of e = (piece_of e).top

abbrev pub is_or : Top → Bool
is_or comparison = false
is_or conjunction = false
is_or disjunction = true

abbrev pub is_join : Top → Bool
is_join comparison = false
is_join conjunction = true
is_join disjunction = true

-- one side of a join as bytes, perhaps between parentheses
abbrev pub side : Bool → List ℕ → List ℕ
side true text = 40 ∷ text ++ 41 ∷ []
side false text = text
