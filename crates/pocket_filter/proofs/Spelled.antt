-- What the first byte of a token tells of it.
use Rattle.std.proofs.Common.{◌≡◌, ◌<◌, ◌≤◌, ℕ, List, [], ◌∷◌, ◌++◌, slice_index, Bool, true, false, refl, ap, ◌∙◌, arith, append_assoc}
use Rattle.std.proofs.lemmas.Bool.{and_parts, cond-true}
use Rattle.std.proofs.lemmas.Bool.Decides.{nat_tests}
use Rattle.std.proofs.lemmas.Str.Parse.{digit_from_value}
use Rattle.std.specs.List.{list_all}
use Rattle.std.specs.Str.Parse.{IsNumeral}
use Rattle.pocket_types.specs.Names.{is_digit, is_word}
use Rattle.pocket_types.specs.declared.expr.Op.TheVariants.{Eq}
use Rattle.pocket_types.specs.declared.expr.Part.{Part}
use Rattle.pocket_filter.specs.Tokens.{Lexeme, Open, Close, And, Or, Test, Ident, Text, Number}
use Rattle.pocket_filter.specs.Lexing.{IsName, part_text, IsPart, dotted, parts_text, ident_text, ArePath, is_quote, minus_text, Spells}
use Rattle.pocket_filter.specs.Scanning.{class}

-- what the class of a token's first byte is
abbrev pub class_of : Lexeme → ℕ
class_of (Text written) = 1
class_of (Number n) = 2
class_of (Ident written) = 3
class_of l = 0

-- ---- classes of bytes

pub class_quote : (b : ℕ) → is_quote b ≡ true → class b ≡ 1
class_quote b h = cond-true (is_quote b) 1 _ h

pub class_digit : (b : ℕ) → 48 ≤ b → b ≤ 57 → class b ≡ 2
class_digit b low high = grind (arith, nat_tests)

pub class_word : (b : ℕ) → is_word b ≡ true → is_digit b ≡ false → class b ≡ 3
class_word b h n = grind (arith, nat_tests)

-- ---- first bytes

pub name_first : (name rest : List ℕ) → IsName name → is_word (slice_index (name ++ rest) 0) ≡ true
name_first [] rest h = let some : 0 < 0 = h.0 in absurd (omega arith)
name_first (b ∷ bs) rest h = (and_parts (is_word b) (list_all is_word bs) h.1).0

pub part_first : (part : Part) (rest : List ℕ) → IsPart part → is_word (slice_index (part_text part ++ rest) 0) ≡ true
part_first part rest h = rw append_assoc (name_first part.name _ h.name)

pub path_first : (parts : List Part) → ArePath parts → is_word (slice_index (parts_text parts) 0) ≡ true
path_first [] h = let some : 0 < 0 = h.some in absurd (omega arith)
path_first (part ∷ parts) h = part_first part (dotted parts) h.each.0

ident_class : (sign : Bool) (parts : List Part) → ArePath parts → class (slice_index (ident_text sign parts) 0) ≡ 3
ident_class true parts h = refl
ident_class false parts h = class_word (slice_index (parts_text parts) 0) (path_first parts h) h.first

digits_class : (digits : List ℕ) → IsNumeral 10 digits → class (slice_index digits 0) ≡ 2
digits_class [] h = let some : 0 < 0 = h.0 in absurd (omega arith)
digits_class (c ∷ cs) h = let digit = digit_from_value c h.1.0 in class_digit c digit.0 digit.1

number_class : (minus : Bool) (digits : List ℕ) → IsNumeral 10 digits → class (slice_index (minus_text minus ++ digits) 0) ≡ 2
number_class true digits h = refl
number_class false digits h = digits_class digits h

-- the class of a token's first byte
pub class_is : (bytes : List ℕ) (l : Lexeme) → Spells bytes l → class (slice_index bytes 0) ≡ class_of l
class_is bytes Open e = ap (λ s. class (slice_index s 0)) e
class_is bytes Close e = ap (λ s. class (slice_index s 0)) e
class_is bytes And e = ap (λ s. class (slice_index s 0)) e
class_is bytes Or e = ap (λ s. class (slice_index s 0)) e
class_is bytes (Test true op) e = ap (λ s. class (slice_index s 0)) e
class_is bytes (Test false Eq) e = ap (λ s. class (slice_index s 0)) e
class_is bytes (Test false op) e = ap (λ s. class (slice_index s 0)) e
class_is bytes (Ident written) h = let i = h.1 in ap (λ s. class (slice_index s 0)) i.3 ∙ ident_class i.0 i.1 i.2
class_is bytes (Text written) h = let t = h.1 in ap (λ s. class (slice_index s 0)) t.5 ∙ class_quote t.0 t.3
class_is bytes (Number n) h = ap (λ s. class (slice_index s 0)) h.3 ∙ number_class h.0 h.1 h.2

-- no token is empty
pub spelled_some : (l : Lexeme) → Spells [] l → ⊥
spelled_some Open e = cc
spelled_some Close e = cc
spelled_some And e = cc
spelled_some Or e = cc
spelled_some (Test true op) e = cc
spelled_some (Test false Eq) e = cc
spelled_some (Test false op) e = cc
spelled_some l e = let apart : 0 ≡ class_of l = class_is [] l e in omega arith
