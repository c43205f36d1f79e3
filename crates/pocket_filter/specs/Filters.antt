-- Which texts are filters, and what is wrong with the others.
use Rattle.std.specs.Prelude.{◌≡◌, ◌≤◌, ◌<◌, ℕ, List, length, Some, None, Result, Ok, Err, ◌⊎◌}
use Rattle.pocket_types.specs.declared.expr.Expr.{Expr}
use Rattle.pocket_types.specs.declared.faults.FilterFault.{FilterFault}
use Rattle.pocket_types.specs.declared.faults.FilterFault.TheVariants as faults
use Rattle.pocket_filter.specs.Faults.{Placed, lexemes, IsTooDeep, IsUnexpected, comparisons}
use Rattle.pocket_filter.specs.Grammar.{IsOr}
use Rattle.pocket_filter.specs.Lexing.{Lexes}

-- the tokens of a text that is short enough, whose parentheses don't nest too deep
pub record HasTokens (text : List ℕ) (ts : List Placed) : Type 0 where
  pub short : length text ≤ 3500
  pub lexed : Lexes 0 text ts None
  pub shallow : IsTooDeep (lexemes ts) → ⊥

-- the text is a filter within the limits, and this is its tree
pub record IsFilter (text : List ℕ) (tree : Expr) : Type 0 where
  pub tokens : List Placed
  pub read : HasTokens text tokens
  pub derived : IsOr (lexemes tokens) tree
  pub few : comparisons tree ≤ 100

-- the first fault of the text's tokens is this one
pub record HasLexicalFault (text : List ℕ) (fault : FilterFault) : Type 0 where
  pub tokens : List Placed
  pub short : length text ≤ 3500
  pub lexed : Lexes 0 text tokens (Some fault)

pub record NestsTooDeep (text : List ℕ) : Type 0 where
  pub tokens : List Placed
  pub short : length text ≤ 3500
  pub lexed : Lexes 0 text tokens None
  pub deep : IsTooDeep (lexemes tokens)

pub record GoesWrong (text : List ℕ) (at : ℕ) : Type 0 where
  pub tokens : List Placed
  pub read : HasTokens text tokens
  pub unexpected : IsUnexpected (length text) tokens at

pub record HasTooMany (text : List ℕ) : Type 0 where
  pub tokens : List Placed
  pub tree : Expr
  pub read : HasTokens text tokens
  pub derived : IsOr (lexemes tokens) tree
  pub many : 100 < comparisons tree

-- What is wrong with a text: of several things the first in this order. Want of memory is nothing of the text.
abbrev pub IsFault : List ℕ → FilterFault → Type 0
IsFault text faults.TooLong = 3500 < length text
IsFault text (faults.BadByte at) = HasLexicalFault text (faults.BadByte at)
IsFault text (faults.OpenString at) = HasLexicalFault text (faults.OpenString at)
IsFault text (faults.NumberRange at) = HasLexicalFault text (faults.NumberRange at)
IsFault text faults.TooDeep = NestsTooDeep text
IsFault text (faults.Unexpected at) = GoesWrong text at
IsFault text faults.TooMany = HasTooMany text
IsFault text faults.Memory = ⊥

-- what a text is
abbrev pub IsVerdict : List ℕ → Result Expr FilterFault → Type 0
IsVerdict text (Ok tree) = IsFilter text tree
IsVerdict text (Err fault) = IsFault text fault

-- the answer is this verdict, unless memory ran out
abbrev pub IsAnswer : Result Expr FilterFault → Result Expr FilterFault → Type 0
IsAnswer verdict result = (result ≡ verdict) ⊎ (result ≡ Err faults.Memory)
