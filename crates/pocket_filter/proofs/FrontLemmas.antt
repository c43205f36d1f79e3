-- What is found at the front of a text stands there.
use Rattle.std.proofs.Common.{◌≡◌, ◌<◌, ◌≤◌, ◌+◌, ◌==◌, ◌||◌, ℕ, zero, suc, ℤ, Bool, true, false, cond, List, [], ◌∷◌, length, take, drop, slice_index, Option, Some, None, refl, sym, ap, subst, ◌∙◌, arith, ne_eqb}
use Rattle.std.proofs.lemmas.Bool.{eqb-true, eqb-false}
use Rattle.std.proofs.lemmas.Str.Parse.{digit_from_value}
use Rattle.std.specs.List.{prefix_len}
use Rattle.std.specs.Str.{IsUtf8, IsCharBoundary}
use Rattle.std.specs.Str.Parse.{digits_value}
use Rattle.pocket_types.specs.Names.{is_digit}
use Rattle.pocket_filter.specs.declared.lexer.Start.{Start}
use Rattle.pocket_filter.specs.declared.lexer.Start.TheVariants as start
use Rattle.pocket_filter.specs.Fronts as front
use Rattle.pocket_filter.specs.Fronts.{Front, begun_by, comment_front, front_by, ident_front, ident_of_len, mark_front, mark_token, number_behind, number_front, number_ranged, number_value, quoted_front, quoted_inside}
use Rattle.pocket_filter.specs.Lexing.{TakesLongest, TakesSeparator, BeginsNoToken, BeginsNoSeparator, IsInRange, IsNumber, is_blank, is_quote, with_minus}
use Rattle.pocket_filter.specs.Scanning.{begins_name, class, closing, in_line, in_range, mark_of, sign_len}
use Rattle.pocket_filter.specs.Tokens.{Lexeme}
use Rattle.pocket_filter.proofs.Fronts.{index_rest}
use Rattle.pocket_filter.proofs.Idents.{ident_found, ident_len, ident_start, no_ident}
use Rattle.pocket_filter.proofs.Marks.{mark_found, mark_start, no_mark}
use Rattle.pocket_filter.proofs.Numbers.{no_number, number_found, number_len, number_start, range_none, range_some}
use Rattle.pocket_filter.proofs.Separators.{blank_piece, comment_found, no_separator}
use Rattle.pocket_filter.proofs.Texts.{text_found, text_open}

abbrev pub IsFront : List ℕ → Front → Type 0
IsFront text (front.Separator n) = (0 < n) × TakesSeparator text n × IsCharBoundary text n
IsFront text (front.Token l n) = (0 < n) × TakesLongest text n l × IsInRange l × IsCharBoundary text n
IsFront text front.OverRange = (n : ℕ) × (l : Lexeme) × TakesLongest text n l × (IsInRange l → ⊥)
IsFront text front.OpenText = (is_quote (slice_index text 0) ≡ true) × BeginsNoToken text
IsFront text front.NoToken = (is_quote (slice_index text 0) ≡ false) × BeginsNoSeparator text × BeginsNoToken text

-- ---- by what a text begins with

comment_is : (text : List ℕ) → slice_index text 0 ≡ 47 → IsFront text (comment_front text)
comment_is text e = by (slice_index text 1 == 47) refl
  where
    by : (b : Bool) → (slice_index text 1 == 47) ≡ b → IsFront text (cond b (front.Separator (prefix_len in_line text)) front.NoToken)
    by true f = comment_found text e (eqb-true (slice_index text 1) 47 f)
    by false f = (
      ap is_quote e,
      no_separator text (ap is_blank e) (λ _ g. eqb-false (slice_index text 1) 47 f g),
      no_mark text (ap class e) (ap (λ b. mark_of b (slice_index text 1) (slice_index text 2)) e),
    )

quoted_is : (text : List ℕ) → IsUtf8 text → is_quote (slice_index text 0) ≡ true → IsFront text (quoted_front text)
quoted_is text utf8 e = by (closing (slice_index text 0) false 0 (drop 1 text)) refl
  where
    by : (o : Option ℕ) → closing (slice_index text 0) false 0 (drop 1 text) ≡ o → IsFront text (quoted_inside text o)
    by None f = (e, text_open text e f)
    by (Some inside) f = let t = text_found text inside utf8 e f in (omega arith, t.0, tt, t.1)

-- a number is the value of its token
number_is_value : (word : List ℕ) (n : ℤ) → IsNumber word n → n ≡ number_value word
number_is_value word n (true, digits, numeral, e, v) = v ∙ sym (ap number_value e)
number_is_value word n (false, [], numeral, e, v) = let some : 0 < 0 = numeral.0 in absurd (omega arith)
number_is_value word n (false, d ∷ digits, numeral, e, v) =
    let range = digit_from_value d numeral.1.0 in
    let low : 48 ≤ d = range.0 in
    let apart : (d == 45) ≡ false = ne_eqb d 45 (λ f. omega arith) in
    v ∙ sym (ap number_value e ∙ ap (λ b. cond b (with_minus true (digits_value 10 digits)) (with_minus false (digits_value 10 (d ∷ digits)))) apart)

-- digits make a number, if it is in range
number_behind_is : (sign digits : ℕ) (text : List ℕ) → 0 < digits → number_behind sign digits text ≡ number_ranged (sign + digits) (in_range (number_value (take (sign + digits) text)))
number_behind_is sign zero text some = absurd (omega arith)
number_behind_is sign (suc n) text some = refl

pub number_ranged_is : (text : List ℕ) (o : Option ℤ) (n : ℤ) → 0 < prefix_len is_digit (drop (sign_len 45 (slice_index text 0)) text) → IsNumber (take (number_len text) text) n → in_range n ≡ o
    → number_front text ≡ number_ranged (number_len text) o
number_ranged_is text o n some spelled e =
    number_behind_is (sign_len 45 (slice_index text 0)) (prefix_len is_digit (drop (sign_len 45 (slice_index text 0)) text)) text some
    ∙ ap (λ m. number_ranged (number_len text) (in_range m)) (sym (number_is_value (take (number_len text) text) n spelled)) ∙ ap (number_ranged (number_len text)) e

number_is : (text : List ℕ) → IsUtf8 text → class (slice_index text 0) ≡ 2 → IsFront text (number_front text)
number_is text utf8 h = by (prefix_len is_digit (drop (sign_len 45 (slice_index text 0)) text)) refl
  where
    sign : ℕ
    sign = sign_len 45 (slice_index text 0)

    ranged : (len : ℕ) → 0 < len → TakesLongest text len (Lexeme.Number (number_value (take len text))) → IsCharBoundary text len
        → (o : Option ℤ) → in_range (number_value (take len text)) ≡ o → IsFront text (number_ranged len o)
    ranged len some longest boundary None e = (len, Lexeme.Number (number_value (take len text)), longest, range_none (number_value (take len text)) e)
    ranged len some longest boundary (Some n) e =
        let r = range_some (number_value (take len text)) n e in
        (some, subst (λ m. TakesLongest text len (Lexeme.Number m)) r.0 longest, r.1, boundary)

    by : (digits : ℕ) → prefix_len is_digit (drop sign text) ≡ digits → IsFront text (number_behind sign digits text)
    by zero e = let s = number_start (slice_index text 0) h in (s.0, s.1 text refl, no_number text h e)
    by (suc n) e =
        let some : 0 < prefix_len is_digit (drop sign text) = omega (arith, e) in
        let found = number_found text utf8 h some in
        let value = subst (λ m. TakesLongest text (number_len text) (Lexeme.Number m)) (number_is_value (take (number_len text) text) found.0 found.1) found.2 in
        let len : number_len text ≡ sign + suc n = ap (λ k. sign + k) e in
        let positive : 0 < sign + suc n = omega arith in
        ranged (sign + suc n) positive (subst (λ k. TakesLongest text k (Lexeme.Number (number_value (take k text)))) len value) (subst (IsCharBoundary text) len found.3)
        (in_range (number_value (take (sign + suc n) text))) refl

ident_is : (text : List ℕ) → IsUtf8 text → class (slice_index text 0) ≡ 3 → IsFront text (ident_front text)
ident_is text utf8 h = by (begins_name (slice_index text sign)) refl
  where
    sign : ℕ
    sign = sign_len 64 (slice_index text 0)

    first : slice_index text sign ≡ slice_index (drop sign text) 0
    first = index_rest text text sign sign refl refl

    by : (b : Bool) → begins_name (slice_index text sign) ≡ b → IsFront text (cond b (ident_of_len (ident_len text) text) front.NoToken)
    by true e = let t = ident_found text utf8 h (sym (ap begins_name first) ∙ e) in (t.0, t.1, tt, t.2)
    by false e = let s = ident_start (slice_index text 0) h in (s.0, s.1 text refl, no_ident text h (sym (ap begins_name first) ∙ e))

mark_is : (text : List ℕ) → IsUtf8 text → class (slice_index text 0) ≡ 0 → is_blank (slice_index text 0) ≡ false → (slice_index text 0 ≡ 47 → ⊥) → IsFront text (mark_front text)
mark_is text utf8 h blank slash = by (mark_of (slice_index text 0) (slice_index text 1) (slice_index text 2)) refl
  where
    by : (o : Option (Lexeme × ℕ)) → mark_of (slice_index text 0) (slice_index text 1) (slice_index text 2) ≡ o → IsFront text (mark_token o)
    by None e = (mark_start (slice_index text 0) h, no_separator text blank (λ f _. slash f), no_mark text h e)
    by (Some m) e = mark_found text m.0 m.1 utf8 h e

-- ---- by the first byte

-- what a byte begins
abbrev Starts : ℕ → Start → Type 0
Starts b start.Blank = is_blank b ≡ true
Starts b start.Slash = b ≡ 47
Starts b start.Quote = is_quote b ≡ true
Starts b start.Number = class b ≡ 2
Starts b start.Ident = class b ≡ 3
Starts b start.Mark = (class b ≡ 0) × (is_blank b ≡ false) × (b ≡ 47 → ⊥)

-- what a byte begins that is neither a blank nor a slash, by its class
abbrev by_class : Bool → Bool → Bool → Start
by_class quote digit name = cond quote start.Quote (cond digit start.Number (cond name start.Ident start.Mark))

starts_by : (b : ℕ) → is_blank b ≡ false → (b ≡ 47 → ⊥) → (quote digit name : Bool) → is_quote b ≡ quote → (b == 45 || is_digit b) ≡ digit → (b == 64 || begins_name b) ≡ name
    → Starts b (by_class quote digit name)
starts_by b blank slash true digit name e f g = e
starts_by b blank slash false true name e f g = rw (e, f) refl
starts_by b blank slash false false true e f g = rw (e, f, g) refl
starts_by b blank slash false false false e f g = (rw (e, f, g) refl, blank, slash)

starts : (b : ℕ) → Starts b (begun_by b)
starts b = blank (is_blank b) refl
  where
    slash : (t : Bool) → (b == 47) ≡ t → is_blank b ≡ false → Starts b (cond t start.Slash (by_class (is_quote b) (b == 45 || is_digit b) (b == 64 || begins_name b)))
    slash true e f = eqb-true b 47 e
    slash false e f = starts_by b f (eqb-false b 47 e) (is_quote b) (b == 45 || is_digit b) (b == 64 || begins_name b) refl refl refl

    blank : (t : Bool) → is_blank b ≡ t → Starts b (cond t start.Blank (cond (b == 47) start.Slash (by_class (is_quote b) (b == 45 || is_digit b) (b == 64 || begins_name b))))
    blank true e = e
    blank false e = slash (b == 47) refl e

front_started : (text : List ℕ) → IsUtf8 text → 0 < length text → (s : Start) → Starts (slice_index text 0) s → IsFront text (front_by s text)
front_started text utf8 some start.Blank h = blank_piece text utf8 some h
front_started text utf8 some start.Slash h = comment_is text h
front_started text utf8 some start.Quote h = quoted_is text utf8 h
front_started text utf8 some start.Number h = number_is text utf8 h
front_started text utf8 some start.Ident h = ident_is text utf8 h
front_started text utf8 some start.Mark h = mark_is text utf8 h.0 h.1 h.2

pub front_is : (text : List ℕ) → IsUtf8 text → 0 < length text → IsFront text (front.front text)
front_is text utf8 some = front_started text utf8 some (begun_by (slice_index text 0)) (starts (slice_index text 0))

-- what is found to be the front is there
pub front_found : (text : List ℕ) (f : Front) → IsUtf8 text → 0 < length text → f ≡ front.front text → IsFront text f
front_found text f utf8 some e = subst (IsFront text) (sym e) (front_is text utf8 some)
