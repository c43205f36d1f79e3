-- The tokens of a filter, apart from where they lie in memory.
use Rattle.std.specs.Prelude.{ℕ, ℤ, List, Bool}
use Rattle.pocket_types.specs.declared.expr.Op.{Op}
use Rattle.pocket_filter.specs.declared.tokens.Token.{Token}
use Rattle.pocket_filter.specs.declared.tokens.TokenKind.{TokenKind}
use Rattle.pocket_filter.specs.declared.tokens.TokenKind.TheVariants as kind

-- a token; an ident and a text are the bytes as they are written, quotes and escapes included
pub data Lexeme : Type 0 where
  Open : Lexeme
  Close : Lexeme
  And : Lexeme
  Or : Lexeme
  Test : Bool → Op → Lexeme
  Ident : List ℕ → Lexeme
  Text : List ℕ → Lexeme
  Number : ℤ → Lexeme

-- the same of a token that lies in memory
abbrev pub lexeme_of : TokenKind → Lexeme
lexeme_of kind.Open = Open
lexeme_of kind.Close = Close
lexeme_of kind.And = And
lexeme_of kind.Or = Or
lexeme_of (kind.Test any op) = Test any op
lexeme_of (kind.Ident s) = Ident s.now
lexeme_of (kind.Text s) = Text s.now
lexeme_of (kind.Number n) = Number n

-- a token with its place, a byte of the text
abbrev pub placed : Token → ℕ × Lexeme
placed t = (t.at, lexeme_of t.kind)
