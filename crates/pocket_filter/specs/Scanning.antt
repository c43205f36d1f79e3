-- How far a scan of the lexer goes. That these are the longest tokens is a matter of proofs/.
use Rattle.std.specs.Prelude.{ℕ, suc, ◌+◌, ◌==◌, ◌||◌, ◌&&◌, not, List, [], ◌∷◌, length, slice_index, Bool, true, false, if◌then◌else◌, Option, Some, None, option_map, ℤ, unsigned_abs, nat_lt, ◌^◌, ◌++◌, encode_utf8}
use Rattle.pocket_types.specs.Names.{is_digit, is_letter, is_word}
use Rattle.pocket_types.specs.declared.expr.Op.{Op}
use Rattle.pocket_types.specs.declared.expr.Op.TheVariants.{Eq, Ne, Gt, Ge, Lt, Le, Like, Unlike}
use Rattle.pocket_filter.specs.Tokens.{Lexeme, Open, Close, And, Or, Test}
use Rattle.pocket_filter.specs.Lexing.{is_quote, op_text}

-- a letter or `_`
abbrev pub begins_name : ℕ → Bool
begins_name b = is_letter b || b == 95

-- What the first byte of a token tells of it: 1 for a text, 2 for a number, 3 for an ident and 0 for all else.
abbrev pub class : ℕ → ℕ
class b = if is_quote b then 1 else (if b == 45 || is_digit b then 2 else (if b == 64 || begins_name b then 3 else 0))

-- no line feed
abbrev pub in_line : ℕ → Bool
in_line b = not (b == 10)

-- the longest operator that begins with the two bytes
abbrev pub op_of : ℕ → ℕ → Option Op
op_of first second =
    if first == 61 then Some Eq
    else (if first == 126 then Some Like
    else (if first == 62 then Some (if second == 61 then Ge else Gt)
    else (if first == 60 then Some (if second == 61 then Le else Lt)
    else (if first == 33 then (if second == 61 then Some Ne else (if second == 126 then Some Unlike else None))
    else None))))

-- the parenthesis, join or operator that three bytes begin, with its length
abbrev pub mark_of : ℕ → ℕ → ℕ → Option (Lexeme × ℕ)
mark_of first second third =
    if first == 40 then Some (Open, 1)
    else (if first == 41 then Some (Close, 1)
    else (if first == 38 then (if second == 38 then Some (And, 2) else None)
    else (if first == 124 then (if second == 124 then Some (Or, 2) else None)
    else (if first == 63 then option_map (λ op. (Test true op, 1 + length (op_text op))) (op_of second third)
    else option_map (λ op. (Test false op, length (op_text op))) (op_of first second)))))

-- the length of a sign at the front
abbrev pub sign_len : ℕ → ℕ → ℕ
sign_len sign first = if first == sign then 1 else 0

-- a number that is in range
abbrev pub in_range : ℤ → Option ℤ
in_range n = if nat_lt (unsigned_abs n) (2 ^ 53) then Some n else None

-- what may follow a name within an ident, told whether the name is a suffix
abbrev pub joins : Bool → ℕ → Bool
joins suffixed b = b == 46 || (b == 58 && not suffixed)

-- how many bytes of an ident follow, within a name, told whether it is a suffix
abbrev pub path_len : Bool → List ℕ → ℕ
path_len suffixed [] = 0
path_len suffixed (b ∷ rest) =
    if is_word b then suc (path_len suffixed rest)
    else (if joins suffixed b && is_word (slice_index rest 0) then suc (path_len (b == 58) rest) else 0)

-- The place of the closing quote, told whether the first byte is escaped, and its place.
abbrev pub closing : ℕ → Bool → ℕ → List ℕ → Option ℕ
closing quote escaped at [] = None
closing quote true at (b ∷ rest) = closing quote false (at + 1) rest
closing quote false at (b ∷ rest) = if b == quote then Some at else closing quote (b == 92) (at + 1) rest

-- a backslash that isn't escaped itself escapes what follows
abbrev pub escapes : Bool → ℕ → Bool
escapes escaped c = not escaped && c == 92

-- what a character of a text gives, told whether it is escaped
abbrev pub given_by : ℕ → Bool → ℕ → List ℕ
given_by quote escaped c =
    if escapes escaped c then [] else (if escaped && not (c == quote || c == 92) then 92 ∷ encode_utf8 c else encode_utf8 c)

-- what characters give
abbrev pub given : ℕ → Bool → List ℕ → List ℕ
given quote escaped [] = if escaped then 92 ∷ [] else []
given quote escaped (c ∷ rest) = given_by quote escaped c ++ given quote (escapes escaped c) rest
