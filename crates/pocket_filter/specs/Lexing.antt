-- How a text falls into tokens.
use Rattle.std.specs.Prelude.{◌≡◌, ◌≢◌, ℕ, ◌+◌, ◌<◌, ◌≤◌, ◌^◌, ◌==◌, ◌||◌, ℤ, pos, neg_ℤ, unsigned_abs, List, [], ◌∷◌, ◌++◌, length, take, drop, flat_map, slice_index, codes, Bool, true, false, Option, Some, None, IfSome, IsTrue}
use Rattle.std.specs.List.{AllByRecursion, list_all}
use Rattle.std.specs.Str.Parse.{IsNumeral, digits_value}
use Rattle.pocket_types.specs.Names.{is_digit, is_word}
use Rattle.pocket_types.specs.declared.expr.Op.{Op}
use Rattle.pocket_types.specs.declared.expr.Op.TheVariants.{Eq, Ne, Gt, Ge, Lt, Le, Like, Unlike}
use Rattle.pocket_types.specs.declared.expr.Part.{Part}
use Rattle.pocket_types.specs.declared.faults.FilterFault.{FilterFault}
use Rattle.pocket_types.specs.declared.faults.FilterFault.TheVariants.{BadByte, OpenString, NumberRange}
use Rattle.pocket_filter.specs.Tokens.{Lexeme, Open, Close, And, Or, Test, Ident, Text, Number}

-- ---- operators

abbrev pub op_text : Op → List ℕ
op_text Eq = codes "="
op_text Ne = codes "!="
op_text Gt = codes ">"
op_text Ge = codes ">="
op_text Lt = codes "<"
op_text Le = codes "<="
op_text Like = codes "~"
op_text Unlike = codes "!~"

-- an operator, with its `?` where it has one
abbrev pub test_text : Bool → Op → List ℕ
test_text true op = 63 ∷ op_text op
test_text false op = op_text op

-- ---- idents

-- one or more of A-Z, a-z, 0-9 and `_`
abbrev pub IsName : List ℕ → Type 0
IsName bytes = (0 < length bytes) × IsTrue (list_all is_word bytes)

abbrev pub suffix_text : Option (List ℕ) → List ℕ
suffix_text None = []
suffix_text (Some suffix) = 58 ∷ suffix

-- a name, and perhaps `:` and a name
abbrev pub part_text : Part → List ℕ
part_text part = part.name ++ suffix_text part.suffix

pub record IsPart (part : Part) : Type 0 where
  pub name : IsName part.name
  pub suffix : IfSome part.suffix IsName

-- each further part after a dot
abbrev pub dotted : List Part → List ℕ
dotted parts = flat_map (λ part. 46 ∷ part_text part) parts

-- parts, joined by dots
abbrev pub parts_text : List Part → List ℕ
parts_text [] = []
parts_text (part ∷ parts) = part_text part ++ dotted parts

abbrev pub sign_text : Bool → List ℕ
sign_text true = codes "@"
sign_text false = []

-- an ident: perhaps `@`, and then its parts
abbrev pub ident_text : Bool → List Part → List ℕ
ident_text sign parts = sign_text sign ++ parts_text parts

-- the parts of an ident, whose first name doesn't begin with a digit
pub record ArePath (parts : List Part) : Type 0 where
  pub some : 0 < length parts
  pub each : AllByRecursion IsPart parts
  pub first : is_digit (slice_index (parts_text parts) 0) ≡ false

abbrev pub IsIdent : List ℕ → Type 0
IsIdent bytes = (sign : Bool) × (parts : List Part) × ArePath parts × (bytes ≡ ident_text sign parts)

-- ---- texts

abbrev pub is_quote : ℕ → Bool
is_quote b = b == 39 || b == 34

-- What stands between quotes, and the bytes that it gives. A backslash before such a quote or before a backslash gives that
-- character, and any other backslash is itself.
pub data Gives (quote : ℕ) : List ℕ → List ℕ → Type 0 where
  nothing : Gives quote [] []
  itself : {b : ℕ} {written given : List ℕ} → b ≢ quote → b ≢ 92 → Gives quote written given → Gives quote (b ∷ written) (b ∷ given)
  escaped : {b : ℕ} {written given : List ℕ} → IsTrue (b == quote || b == 92) → Gives quote written given → Gives quote (92 ∷ b ∷ written) (b ∷ given)
  backslash : {b : ℕ} {written given : List ℕ} → b ≢ quote → b ≢ 92 → Gives quote written given → Gives quote (92 ∷ b ∷ written) (92 ∷ b ∷ given)

-- a text between quotes
abbrev pub quoted : ℕ → List ℕ → List ℕ
quoted quote written = quote ∷ (written ++ quote ∷ [])

abbrev pub IsText : List ℕ → Type 0
IsText bytes = (quote : ℕ) × (written given : List ℕ) × IsTrue (is_quote quote) × Gives quote written given × (bytes ≡ quoted quote written)

-- ---- numbers

abbrev pub minus_text : Bool → List ℕ
minus_text true = codes "-"
minus_text false = []

abbrev pub with_minus : Bool → ℕ → ℤ
with_minus true n = neg_ℤ (pos n)
with_minus false n = pos n

-- perhaps `-`, and then one or more digits
abbrev pub IsNumber : List ℕ → ℤ → Type 0
IsNumber bytes n = (minus : Bool) × (digits : List ℕ) × IsNumeral 10 digits × (bytes ≡ minus_text minus ++ digits) × (n ≡ with_minus minus (digits_value 10 digits))

-- ---- tokens

-- the bytes spell the token
abbrev pub Spells : List ℕ → Lexeme → Type 0
Spells bytes Open = bytes ≡ codes "("
Spells bytes Close = bytes ≡ codes ")"
Spells bytes And = bytes ≡ codes "&&"
Spells bytes Or = bytes ≡ codes "||"
Spells bytes (Test any op) = bytes ≡ test_text any op
Spells bytes (Ident written) = (bytes ≡ written) × IsIdent bytes
Spells bytes (Text written) = (bytes ≡ written) × IsText bytes
Spells bytes (Number n) = IsNumber bytes n

-- the token is the longest at the front of the bytes, and it is their first n
pub record TakesLongest (bytes : List ℕ) (n : ℕ) (lexeme : Lexeme) : Type 0 where
  pub within : n ≤ length bytes
  pub spelled : Spells (take n bytes) lexeme
  pub longest : (m : ℕ) (other : Lexeme) → m ≤ length bytes → Spells (take m bytes) other → m ≤ n

-- no token begins here
abbrev pub BeginsNoToken : List ℕ → Type 0
BeginsNoToken bytes = (m : ℕ) (other : Lexeme) → Spells (take m bytes) other → ⊥

-- a number is at most 2^53 - 1 in size
abbrev pub IsInRange : Lexeme → Type 0
IsInRange Open = Unit {0}
IsInRange Close = Unit {0}
IsInRange And = Unit {0}
IsInRange Or = Unit {0}
IsInRange (Test any op) = Unit {0}
IsInRange (Ident written) = Unit {0}
IsInRange (Text written) = Unit {0}
IsInRange (Number n) = unsigned_abs n < 2 ^ 53

-- ---- what separates tokens

-- space, tab, CR or LF
abbrev pub is_blank : ℕ → Bool
is_blank b = b == 32 || b == 9 || b == 13 || b == 10

-- nothing follows, or a line feed
abbrev pub ends_line : List ℕ → Bool
ends_line [] = true
ends_line (b ∷ rest) = b == 10

-- The bytes separate tokens where the rest follows them: a blank, or a comment from `//` to the next line feed or the end.
pub data Separates : List ℕ → List ℕ → Type 0 where
  blank : {b : ℕ} {rest : List ℕ} → IsTrue (is_blank b) → Separates (b ∷ []) rest
  comment : {words rest : List ℕ} → AllByRecursion (λ b. b ≢ 10) words → IsTrue (ends_line rest) → Separates (47 ∷ 47 ∷ words) rest

-- the first n bytes are a separator
pub record TakesSeparator (bytes : List ℕ) (n : ℕ) : Type 0 where
  pub within : n ≤ length bytes
  pub separates : Separates (take n bytes) (drop n bytes)

-- no separator begins here
abbrev pub BeginsNoSeparator : List ℕ → Type 0
BeginsNoSeparator bytes = (n : ℕ) → TakesSeparator bytes n → ⊥

-- ---- texts as tokens

-- From a place on, the bytes are read as these tokens with their places, up to their end or to this fault. Between separators
-- stands the longest token at each place. A `.` or `:` that no name follows directly, and a second `:` of a part, begin no token.
pub data Lexes : ℕ → List ℕ → List (ℕ × Lexeme) → Option FilterFault → Type 0 where
  done : {at : ℕ} → Lexes at [] [] None
  separator : {at n : ℕ} {bytes : List ℕ} {found : List (ℕ × Lexeme)} {fault : Option FilterFault} → TakesSeparator bytes n → Lexes (at + n) (drop n bytes) found fault → Lexes at bytes found fault
  token : {at n : ℕ} {bytes : List ℕ} {lexeme : Lexeme} {found : List (ℕ × Lexeme)} {fault : Option FilterFault} → TakesLongest bytes n lexeme → IsInRange lexeme → Lexes (at + n) (drop n bytes) found fault → Lexes at bytes ((at, lexeme) ∷ found) fault
  over_range : {at n : ℕ} {bytes : List ℕ} {lexeme : Lexeme} → TakesLongest bytes n lexeme → (IsInRange lexeme → ⊥) → Lexes at bytes [] (Some (NumberRange at))
  -- a text begins that doesn't end
  open_text : {at quote : ℕ} {rest : List ℕ} → IsTrue (is_quote quote) → BeginsNoToken (quote ∷ rest) → Lexes at (quote ∷ rest) [] (Some (OpenString at))
  no_token : {at b : ℕ} {rest : List ℕ} → is_quote b ≡ false → BeginsNoSeparator (b ∷ rest) → BeginsNoToken (b ∷ rest) → Lexes at (b ∷ rest) [] (Some (BadByte at))
