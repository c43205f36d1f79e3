-- The printed form of a filter.
use Rattle.std.specs.Prelude.{ℕ, ◌==◌, ◌||◌, ◌++◌, true, false, if◌then◌else◌, List, [], ◌∷◌, codes, flat_map}
use Rattle.std.specs.Fmt.{signed_decimal}
use Rattle.pocket_types.specs.declared.expr.Expr.{Expr, fold-Expr}
use Rattle.pocket_types.specs.declared.expr.Expr.TheOpen as expr
use Rattle.pocket_types.specs.declared.expr.Expr.TheOpen.{Expr-F}
use Rattle.pocket_types.specs.declared.expr.Operand.{Operand}
use Rattle.pocket_types.specs.declared.expr.Operand.TheVariants as operands
use Rattle.pocket_filter.specs.Lexing.{ident_text, quoted, test_text}
use Rattle.pocket_filter.specs.Tokens.{Lexeme}

-- ---- tokens

-- what stands for a byte of a text: a backslash before `"` and before a backslash
abbrev pub escape_byte : ℕ → List ℕ
escape_byte b = if b == 34 || b == 92 then 92 ∷ b ∷ [] else b ∷ []

-- the token of an operand
abbrev pub operand_lexeme : Operand → Lexeme
operand_lexeme (operands.Ident sign parts) = Lexeme.Ident (ident_text sign parts)
operand_lexeme (operands.Text text) = Lexeme.Text (quoted 34 (flat_map escape_byte text))
operand_lexeme (operands.Num n) = Lexeme.Number n
operand_lexeme (operands.Flag true) = Lexeme.Ident (codes "true")
operand_lexeme (operands.Flag false) = Lexeme.Ident (codes "false")
operand_lexeme operands.Null = Lexeme.Ident (codes "null")

-- what stands at the top of a tree
pub data Top : Type 0 where
  comparison : Top
  conjunction : Top
  disjunction : Top

-- the tokens of a tree, with what stands at its top
pub record Piece : Type 0 where
  pub top : Top
  pub tokens : List Lexeme

-- between parentheses
abbrev pub wrapped : List Lexeme → List Lexeme
wrapped tokens = Lexeme.Open ∷ tokens ++ Lexeme.Close ∷ []

-- the left side of an `&&`
abbrev pub left_of_and : Top → List Lexeme → List Lexeme
left_of_and comparison tokens = tokens
left_of_and conjunction tokens = tokens
left_of_and disjunction tokens = wrapped tokens

-- the right side of an `&&`
abbrev pub right_of_and : Top → List Lexeme → List Lexeme
right_of_and comparison tokens = tokens
right_of_and conjunction tokens = wrapped tokens
right_of_and disjunction tokens = wrapped tokens

-- the right side of an `||`; its left side never has parentheses
abbrev pub right_of_or : Top → List Lexeme → List Lexeme
right_of_or comparison tokens = tokens
right_of_or conjunction tokens = tokens
right_of_or disjunction tokens = wrapped tokens

-- one level of a tree, the tokens of both sides being there
abbrev pub print_step : Expr-F Piece → Piece
print_step (expr.Test left any op right) = record { top = comparison; tokens = operand_lexeme left ∷ Lexeme.Test any op ∷ operand_lexeme right ∷ [] }
print_step (expr.And a b) = record { top = conjunction; tokens = left_of_and a.top a.tokens ++ Lexeme.And ∷ right_of_and b.top b.tokens }
print_step (expr.Or a b) = record { top = disjunction; tokens = a.tokens ++ Lexeme.Or ∷ right_of_or b.top b.tokens }

abbrev pub piece_of : Expr → Piece
piece_of = fold-Expr Piece print_step

-- The tokens of the printed form. Parentheses stand round an Or under an And, and round a right side that is the same join as
-- the one above it.
abbrev pub printed_tokens : Expr → List Lexeme
printed_tokens e = (piece_of e).tokens

-- ---- bytes

-- a token as it is printed: with one space around operators and joins, and a number without leading zeros
abbrev pub token_text : Lexeme → List ℕ
token_text Lexeme.Open = codes "("
token_text Lexeme.Close = codes ")"
token_text Lexeme.And = codes " && "
token_text Lexeme.Or = codes " || "
token_text (Lexeme.Test any op) = 32 ∷ test_text any op ++ 32 ∷ []
token_text (Lexeme.Ident written) = written
token_text (Lexeme.Text written) = written
token_text (Lexeme.Number n) = signed_decimal n

-- the printed form
abbrev pub printed : Expr → List ℕ
printed e = flat_map token_text (printed_tokens e)
