-- The grammar of filters: which lists of tokens are a filter, and with which tree.
use Rattle.std.specs.Prelude.{◌≡◌, ◌++◌, Bool, List, [], ◌∷◌, Some}
use Rattle.pocket_types.specs.declared.expr.Expr.{Expr}
use Rattle.pocket_types.specs.declared.expr.Expr.TheVariants as made
use Rattle.pocket_types.specs.declared.expr.Op.{Op}
use Rattle.pocket_types.specs.declared.expr.Operand.{Operand}
use Rattle.pocket_filter.specs.Operands.{operand}
use Rattle.pocket_filter.specs.Tokens.{Lexeme}

mutual
  -- or = and { "||" and }, joined from the left
  pub data IsOr : List Lexeme → Expr → Type 0 where
    only_and : (s : List Lexeme) (t : Expr) → IsAnd s t → IsOr s t
    join_or : (s u : List Lexeme) (t v : Expr) → IsOr s t → IsAnd u v → IsOr (s ++ Lexeme.Or ∷ u) (made.Or t v)

  -- and = unit { "&&" unit }, joined from the left
  pub data IsAnd : List Lexeme → Expr → Type 0 where
    only_unit : (s : List Lexeme) (t : Expr) → IsUnit s t → IsAnd s t
    join_and : (s u : List Lexeme) (t v : Expr) → IsAnd s t → IsUnit u v → IsAnd (s ++ Lexeme.And ∷ u) (made.And t v)

  -- unit = "(" or ")" | operand op operand
  pub data IsUnit : List Lexeme → Expr → Type 0 where
    group : (s : List Lexeme) (t : Expr) → IsOr s t → IsUnit (Lexeme.Open ∷ s ++ Lexeme.Close ∷ []) t
    test : (a b : Lexeme) (any : Bool) (op : Op) (left right : Operand) → operand a ≡ Some left → operand b ≡ Some right
        → IsUnit (a ∷ Lexeme.Test any op ∷ b ∷ []) (made.Test left any op right)
