-- The faults of a filter's tokens, and its limits.
use Rattle.std.specs.Prelude.{◌≡◌, ◌<◌, ◌+◌, ◌-◌, ◌++◌, ℕ, Bool, true, false, List, [], ◌∷◌, map, take}
use Rattle.pocket_types.specs.declared.expr.Expr.{Expr, fold-Expr}
use Rattle.pocket_types.specs.declared.expr.Expr.TheOpen as expr
use Rattle.pocket_types.specs.declared.expr.Expr.TheOpen.{Expr-F}
use Rattle.pocket_filter.specs.Grammar.{IsOr}
use Rattle.pocket_filter.specs.Tokens.{Lexeme}

-- a token with its place
abbrev pub Placed : Type 0
Placed = ℕ × Lexeme

abbrev pub lexemes : List Placed → List Lexeme
lexemes = map (λ t. t.1)

-- ---- depth

-- How many opened parentheses aren't yet closed after tokens, from n that aren't before them. An unmatched `)` closes nothing.
abbrev pub open_after : ℕ → List Lexeme → ℕ
open_after n [] = n
open_after n (Lexeme.Open ∷ ls) = open_after (n + 1) ls
open_after n (Lexeme.Close ∷ ls) = open_after (n - 1) ls
open_after n (_ ∷ ls) = open_after n ls

-- in some prefix there are more than 16 opened parentheses not yet closed
abbrev pub IsTooDeep : List Lexeme → Type 0
IsTooDeep ls = (n : ℕ) × (16 < open_after 0 (take n ls))

-- ---- the first token that can't stand

abbrev pub HasTree : List Lexeme → Type 0
HasTree ls = (tree : Expr) × IsOr ls tree

-- a filter begins with these tokens, or is they
abbrev pub BeginsFilter : List Lexeme → Type 0
BeginsFilter ls = (rest : List Lexeme) × HasTree (ls ++ rest)

-- The place at which tokens that are no filter go wrong: that of the first token such that no filter begins with the tokens
-- up to it, or the end of the text where the tokens are a proper prefix of a filter.
pub data IsUnexpected (end : ℕ) (ts : List Placed) (at : ℕ) : Type 0 where
  token : (front rest : List Placed) (t : Placed) → ts ≡ front ++ t ∷ rest → at ≡ t.0
      → BeginsFilter (lexemes front) → (BeginsFilter (lexemes (front ++ t ∷ [])) → ⊥) → IsUnexpected end ts at
  at_end : at ≡ end → BeginsFilter (lexemes ts) → (HasTree (lexemes ts) → ⊥) → IsUnexpected end ts at

-- ---- comparisons

abbrev pub count_step : Expr-F ℕ → ℕ
count_step (expr.Test left any op right) = 1
count_step (expr.And a b) = a + b
count_step (expr.Or a b) = a + b

-- how many comparisons stand in a tree
abbrev pub comparisons : Expr → ℕ
comparisons = fold-Expr ℕ count_step

abbrev pub is_test : Lexeme → Bool
is_test (Lexeme.Test any op) = true
is_test _ = false
