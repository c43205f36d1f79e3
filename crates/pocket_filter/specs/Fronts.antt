-- What stands at the front of a text, as the lexer finds it. That a token is the longest there is a matter of proofs/.
use Rattle.std.specs.Prelude.{ℕ, zero, ℤ, ◌+◌, ◌==◌, ◌||◌, List, take, drop, slice_index, true, false, Option, Some, None, if◌then◌else◌}
use Rattle.std.specs.List.{prefix_len}
use Rattle.std.specs.Str.Parse.{digits_value}
use Rattle.pocket_types.specs.Names.{is_digit}
use Rattle.pocket_filter.specs.declared.lexer.Piece.{Piece}
use Rattle.pocket_filter.specs.declared.lexer.Piece.TheVariants as piece
use Rattle.pocket_filter.specs.declared.lexer.Start.{Start}
use Rattle.pocket_filter.specs.declared.lexer.Start.TheVariants as start
use Rattle.pocket_filter.specs.Lexing.{is_blank, is_quote, with_minus}
use Rattle.pocket_filter.specs.Scanning.{begins_name, closing, in_line, in_range, mark_of, path_len, sign_len}
use Rattle.pocket_filter.specs.Tokens.{Lexeme, lexeme_of}

-- what separates tokens or a token, each with its length, or why there is neither
pub data Front : Type 0 where
  Separator : ℕ → Front
  Token : Lexeme → ℕ → Front
  OverRange : Front
  OpenText : Front
  NoToken : Front

-- the same of a piece that lies in memory
abbrev pub front_as : Piece → Front
front_as (piece.Separator n) = Separator n
front_as (piece.Token kind n) = Token (lexeme_of kind) n
front_as piece.OverRange = OverRange
front_as piece.OpenText = OpenText
front_as piece.NoToken = NoToken

-- ---- by what a text begins with

-- `//` and the rest of the line
abbrev pub comment_front : List ℕ → Front
comment_front text = if slice_index text 1 == 47 then Separator (prefix_len in_line text) else NoToken

-- a text between quotes, of so many bytes inside, where it ends
abbrev pub quoted_inside : List ℕ → Option ℕ → Front
quoted_inside text None = OpenText
quoted_inside text (Some inside) = Token (Lexeme.Text (take (inside + 2) text)) (inside + 2)

abbrev pub quoted_front : List ℕ → Front
quoted_front text = quoted_inside text (closing (slice_index text 0) false 0 (drop 1 text))

-- the number that a minus and digits are
abbrev pub number_value : List ℕ → ℤ
number_value token =
    if slice_index token 0 == 45 then with_minus true (digits_value 10 (drop 1 token)) else with_minus false (digits_value 10 token)

-- a number of so many bytes, if it is in range
abbrev pub number_ranged : ℕ → Option ℤ → Front
number_ranged n None = OverRange
number_ranged n (Some value) = Token (Lexeme.Number value) n

-- a number behind its sign, of so many digits
abbrev pub number_behind : ℕ → ℕ → List ℕ → Front
number_behind sign zero text = NoToken
number_behind sign digits text = number_ranged (sign + digits) (in_range (number_value (take (sign + digits) text)))

abbrev pub number_front : List ℕ → Front
number_front text = number_behind (sign_len 45 (slice_index text 0)) (prefix_len is_digit (drop (sign_len 45 (slice_index text 0)) text)) text

-- an ident of so many bytes
abbrev pub ident_of_len : ℕ → List ℕ → Front
ident_of_len n text = Token (Lexeme.Ident (take n text)) n

-- an ident behind its sign
abbrev pub ident_behind : ℕ → List ℕ → Front
ident_behind sign text = if begins_name (slice_index text sign) then ident_of_len (sign + path_len false (drop sign text)) text else NoToken

abbrev pub ident_front : List ℕ → Front
ident_front text = ident_behind (sign_len 64 (slice_index text 0)) text

abbrev pub mark_token : Option (Lexeme × ℕ) → Front
mark_token None = NoToken
mark_token (Some m) = Token m.0 m.1

-- a parenthesis, a join or an operator
abbrev pub mark_front : List ℕ → Front
mark_front text = mark_token (mark_of (slice_index text 0) (slice_index text 1) (slice_index text 2))

-- ---- by the first byte

-- what may begin with a byte
abbrev pub begun_by : ℕ → Start
begun_by b =
    if is_blank b then start.Blank
    else (if b == 47 then start.Slash
    else (if is_quote b then start.Quote
    else (if b == 45 || is_digit b then start.Number
    else (if b == 64 || begins_name b then start.Ident
    else start.Mark))))

abbrev pub front_by : Start → List ℕ → Front
front_by start.Blank text = Separator 1
front_by start.Slash text = comment_front text
front_by start.Quote text = quoted_front text
front_by start.Number text = number_front text
front_by start.Ident text = ident_front text
front_by start.Mark text = mark_front text

-- what stands at the front of a text that isn't empty
abbrev pub front : List ℕ → Front
front text = front_by (begun_by (slice_index text 0)) text
