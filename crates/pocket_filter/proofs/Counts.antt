-- How many comparisons stand in a filter's tokens.
use Rattle.std.proofs.Common.{◌≡◌, ℕ, ◌+◌, List, [], ◌∷◌, ◌++◌, Bool, false, Some, cond, map, refl, sym, ap, ◌∙◌, arith, count_by}
use Rattle.std.proofs.lemmas.List.Sums.{sum_by-append}
use Rattle.pocket_types.specs.Inductions.{expr_test, expr_and, expr_or}
use Rattle.pocket_types.specs.declared.expr.Expr.{Expr}
use Rattle.pocket_types.specs.declared.expr.Op.{Op}
use Rattle.pocket_types.specs.declared.expr.Operand.{Operand}
use Rattle.pocket_filter.specs.declared.tokens.Token.{Token}
use Rattle.pocket_filter.specs.Faults.{lexemes, comparisons, count_step, is_test}
use Rattle.pocket_filter.specs.Grammar.{IsOr, IsAnd, IsUnit, only_and, join_or, only_unit, join_and, group, test}
use Rattle.pocket_filter.specs.Operands.{operand}
use Rattle.pocket_filter.specs.Tokens.{Lexeme, lexeme_of, placed}

abbrev tests : List Lexeme → ℕ
tests = count_by is_test

tests-append : (xs ys : List Lexeme) → tests (xs ++ ys) ≡ tests xs + tests ys
tests-append = sum_by-append (λ x. cond (is_test x) 1 0)

-- an operand is no operator
operand_counts : (x : Lexeme) (l : Operand) → operand x ≡ Some l → tests (x ∷ []) ≡ 0
operand_counts Lexeme.Open l e = cc
operand_counts (Lexeme.Test any op) l e = cc
operand_counts _ l e = refl

counts_joined : (s u : List Lexeme) (x : Lexeme) (a b : ℕ) → is_test x ≡ false → a ≡ tests s → b ≡ tests u → a + b ≡ tests (s ++ x ∷ u)
counts_joined s u x a b other e f =
    let here : tests (x ∷ []) ≡ 0 = ap (λ b. 0 + cond b 1 0) other in
    omega (arith, tests-append s (x ∷ u), tests-append (x ∷ []) u)

counts_grouped : (s : List Lexeme) (n : ℕ) → n ≡ tests s → n ≡ tests (Lexeme.Open ∷ s ++ Lexeme.Close ∷ [])
counts_grouped s n e = omega (arith, tests-append s (Lexeme.Close ∷ []), tests-append (Lexeme.Open ∷ []) (s ++ Lexeme.Close ∷ []))

counts_test : (a b : Lexeme) (any : Bool) (op : Op) (l r : Operand) → operand a ≡ Some l → operand b ≡ Some r → 1 ≡ tests (a ∷ Lexeme.Test any op ∷ b ∷ [])
counts_test a b any op l r e f =
    let first : tests (a ∷ []) ≡ 0 = operand_counts a l e in
    let second : tests (b ∷ []) ≡ 0 = operand_counts b r f in
    omega (arith, tests-append (a ∷ []) (Lexeme.Test any op ∷ b ∷ []), tests-append (Lexeme.Test any op ∷ []) (b ∷ []))

mutual
  counts_or : (w : List Lexeme) (t : Expr) → IsOr w t → comparisons t ≡ tests w
  counts_or w t (only_and s u h) = counts_and s u h
  counts_or w t (join_or s u v x h k) = expr_or ℕ count_step v x ∙ counts_joined s u Lexeme.Or (comparisons v) (comparisons x) refl (counts_or s v h) (counts_and u x k)

  counts_and : (w : List Lexeme) (t : Expr) → IsAnd w t → comparisons t ≡ tests w
  counts_and w t (only_unit s u h) = counts_unit s u h
  counts_and w t (join_and s u v x h k) = expr_and ℕ count_step v x ∙ counts_joined s u Lexeme.And (comparisons v) (comparisons x) refl (counts_and s v h) (counts_unit u x k)

  counts_unit : (w : List Lexeme) (t : Expr) → IsUnit w t → comparisons t ≡ tests w
  counts_unit w t (group s u h) = counts_grouped s (comparisons u) (counts_or s u h)
  counts_unit w t (test a b any op l r e f) = expr_test ℕ count_step l any op r ∙ counts_test a b any op l r e f

pub counts_are : (w : List Lexeme) (t : Expr) → IsOr w t → comparisons t ≡ count_by is_test w
counts_are = counts_or

-- the operators of tokens in memory
pub counted : (ts : List Token) → count_by (λ t. is_test (lexeme_of t.kind)) ts ≡ count_by is_test (lexemes (map placed ts))
counted [] = refl
counted (t ∷ ts) =
    sum_by-append (λ (t : Token). cond (is_test (lexeme_of t.kind)) 1 0) (t ∷ []) ts ∙ ap (λ n. tests (lexeme_of t.kind ∷ []) + n) (counted ts)
    ∙ sym (tests-append (lexeme_of t.kind ∷ []) (lexemes (map placed ts)))
