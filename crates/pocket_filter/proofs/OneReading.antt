-- A text is read in one way.
use Rattle.std.proofs.Common.{◌≡◌, ◌≢◌, ◌+◌, ◌≤◌, ◌==◌, ◌||◌, inl, inr, ℕ, zero, suc, ℤ, List, [], ◌∷◌, ◌++◌, length, take, drop, slice_index, Bool, true, false, cond, Option, Some, None, refl, sym, ap, ◌∙◌, subst, arith, take-append-drop}
use Rattle.std.proofs.lemmas.Bool.{eqb-true, or_cases, cond-true}
use Rattle.std.proofs.lemmas.Bool.Decides.{nat_tests}
use Rattle.std.proofs.lemmas.List.{length-take-le}
use Rattle.std.proofs.lemmas.Str.Parse.{digit_from_value}
use Rattle.std.specs.List.{AllByRecursion, prefix_len}
use Rattle.std.specs.Str.Parse.{IsNumeral, digits_value}
use Rattle.pocket_types.specs.declared.expr.Op.{Op}
use Rattle.pocket_types.specs.declared.expr.Op.TheVariants.{Eq, Ne, Gt, Ge, Lt, Le, Like, Unlike}
use Rattle.pocket_types.specs.declared.faults.FilterFault.{FilterFault}
use Rattle.pocket_types.specs.declared.faults.FilterFault.TheVariants.{BadByte, OpenString, NumberRange}
use Rattle.pocket_filter.specs.Tokens.{Lexeme, Open, Close, And, Or, Test, Ident, Text, Number}
use Rattle.pocket_filter.specs.Lexing.{op_text, is_quote, is_blank, ends_line, minus_text, with_minus, IsNumber, Spells, TakesLongest, BeginsNoToken, IsInRange, Separates, blank, comment, TakesSeparator, BeginsNoSeparator, Lexes, done, separator, token, over_range, open_text, no_token}
use Rattle.pocket_filter.specs.Scanning.{class, in_line, mark_of}
use Rattle.pocket_filter.proofs.Marks.{mark_at, no_mark}
use Rattle.pocket_filter.proofs.Separators.{first_of, front_first, front_two, no_separator}
use Rattle.pocket_filter.proofs.Spelled.{class_of, class_is, spelled_some}

-- ---- the bytes of a token tell which it is

is_text : (bytes : List ℕ) (l : Lexeme) → class_of l ≡ 1 → Spells bytes l → l ≡ Text bytes
is_text bytes (Text written) h s = ap Text (sym s.0)
is_text bytes (Ident written) h s = absurd (omega arith)
is_text bytes (Number n) h s = absurd (omega arith)
is_text bytes l h s = absurd (omega arith)

is_ident : (bytes : List ℕ) (l : Lexeme) → class_of l ≡ 3 → Spells bytes l → l ≡ Ident bytes
is_ident bytes (Ident written) h s = ap Ident (sym s.0)
is_ident bytes (Text written) h s = absurd (omega arith)
is_ident bytes (Number n) h s = absurd (omega arith)
is_ident bytes l h s = absurd (omega arith)

is_number : (bytes : List ℕ) (l : Lexeme) → class_of l ≡ 2 → Spells bytes l → (n : ℤ) × (l ≡ Number n) × IsNumber bytes n
is_number bytes (Number n) h s = (n, refl, s)
is_number bytes (Text written) h s = absurd (omega arith)
is_number bytes (Ident written) h s = absurd (omega arith)
is_number bytes l h s = absurd (omega arith)

no_minus : (digits rest : List ℕ) → IsNumeral 10 digits → digits ≡ 45 ∷ rest → ⊥
no_minus [] rest h e = cc
no_minus (d ∷ digits) rest h e =
    let range = digit_from_value d h.1.0 in
    let low : 48 ≤ d = range.0 in
    let same : d ≡ 45 = cc in
    omega arith

one_number : (bytes : List ℕ) (minus : Bool) (digits : List ℕ) (other : Bool) (more : List ℕ) → IsNumeral 10 digits → IsNumeral 10 more
    → bytes ≡ minus_text minus ++ digits → bytes ≡ minus_text other ++ more → with_minus minus (digits_value 10 digits) ≡ with_minus other (digits_value 10 more)
one_number bytes true digits true more h g e f = let same : digits ≡ more = cc in ap (λ ds. with_minus true (digits_value 10 ds)) same
one_number bytes false digits false more h g e f = ap (λ ds. with_minus false (digits_value 10 ds)) (sym e ∙ f)
one_number bytes true digits false more h g e f = absurd (no_minus more digits g (sym f ∙ e))
one_number bytes false digits true more h g e f = absurd (no_minus digits more h (sym e ∙ f))

same_number : (bytes : List ℕ) (n m : ℤ) → IsNumber bytes n → IsNumber bytes m → n ≡ m
same_number bytes n m s t = s.4 ∙ one_number bytes s.0 s.1 t.0 t.1 s.2 t.2 s.3 t.3 ∙ sym t.4

exact_plain : (op : Op) → mark_at (op_text op) ≡ Some (Test false op, length (op_text op))
exact_plain Eq = refl
exact_plain Ne = refl
exact_plain Gt = refl
exact_plain Ge = refl
exact_plain Lt = refl
exact_plain Le = refl
exact_plain Like = refl
exact_plain Unlike = refl

exact_any : (op : Op) → mark_at (63 ∷ op_text op) ≡ Some (Test true op, suc (length (op_text op)))
exact_any Eq = refl
exact_any Ne = refl
exact_any Gt = refl
exact_any Ge = refl
exact_any Lt = refl
exact_any Le = refl
exact_any Like = refl
exact_any Unlike = refl

-- a mark is found in its own bytes
exact : (bytes : List ℕ) (l : Lexeme) → class_of l ≡ 0 → Spells bytes l → mark_at bytes ≡ Some (l, length bytes)
exact bytes Open h e = subst (λ bs. mark_at bs ≡ Some (Open, length bs)) (sym e) refl
exact bytes Close h e = subst (λ bs. mark_at bs ≡ Some (Close, length bs)) (sym e) refl
exact bytes And h e = subst (λ bs. mark_at bs ≡ Some (And, length bs)) (sym e) refl
exact bytes Or h e = subst (λ bs. mark_at bs ≡ Some (Or, length bs)) (sym e) refl
exact bytes (Test true op) h e = subst (λ bs. mark_at bs ≡ Some (Test true op, length bs)) (sym e) (exact_any op)
exact bytes (Test false op) h e = subst (λ bs. mark_at bs ≡ Some (Test false op, length bs)) (sym e) (exact_plain op)
exact bytes (Ident written) h e = absurd (omega arith)
exact bytes (Text written) h e = absurd (omega arith)
exact bytes (Number n) h e = absurd (omega arith)

same_mark : (bytes : List ℕ) (l other : Lexeme) → class_of l ≡ 0 → class_of other ≡ 0 → Spells bytes l → Spells bytes other → l ≡ other
same_mark bytes l other h g s t =
    let both : ◌≡◌ {A = Option (Lexeme × ℕ)} (Some (l, length bytes)) (Some (other, length bytes)) = sym (exact bytes l h s) ∙ exact bytes other g t in
    let pair : ◌≡◌ {A = Lexeme × ℕ} (l, length bytes) (other, length bytes) = cc in
    ap (λ (p : Lexeme × ℕ). p.0) pair

same_class : (bytes : List ℕ) (l other : Lexeme) → Spells bytes l → Spells bytes other → class_of other ≡ class_of l
same_class bytes l other s t = sym (class_is bytes other t) ∙ class_is bytes l s

-- bytes spell one token at most
pub same_token : (bytes : List ℕ) (l other : Lexeme) → Spells bytes l → Spells bytes other → l ≡ other
same_token bytes (Text written) other s t = ap Text (sym s.0) ∙ sym (is_text bytes other (same_class bytes (Text written) other s t) t)
same_token bytes (Ident written) other s t = ap Ident (sym s.0) ∙ sym (is_ident bytes other (same_class bytes (Ident written) other s t) t)
same_token bytes (Number n) other s t =
    let o = is_number bytes other (same_class bytes (Number n) other s t) t in
    ap Number (same_number bytes n o.0 s o.2) ∙ sym o.1
same_token bytes l other s t = same_mark bytes l other refl (same_class bytes l other s t) s t

same_longest : (bytes : List ℕ) (n m : ℕ) (l other : Lexeme) → TakesLongest bytes n l → TakesLongest bytes m other → (n ≡ m) × (l ≡ other)
same_longest bytes n m l other s t =
    let below = s.longest m other t.within t.spelled in
    let above = t.longest n l s.within s.spelled in
    let same : n ≡ m = omega arith in
    (same, same_token (take m bytes) l other (subst (λ k. Spells (take k bytes) l) same s.spelled) t.spelled)

-- ---- separators

line_run : (words rest : List ℕ) → AllByRecursion (λ b. b ≢ 10) words → ends_line rest ≡ true → prefix_len in_line (words ++ rest) ≡ length words
line_run [] [] h e = refl
line_run [] (b ∷ rest) h e = rw e refl
line_run (b ∷ words) rest h e =
    let more = line_run words rest h.1 e in
    let here : in_line b ≡ true = no_feed b h.0 in
    rw here (omega arith)
  where
    no_feed : (b : ℕ) → b ≢ 10 → in_line b ≡ true
    no_feed b n = grind (arith, nat_tests)

abbrev gap_len : List ℕ → ℕ
gap_len bytes = cond (is_blank (slice_index bytes 0)) 1 (prefix_len in_line bytes)

separates_len : (gap rest : List ℕ) → Separates gap rest → length gap ≡ gap_len (gap ++ rest)
separates_len gap rest (blank {b} h) = sym (cond-true (is_blank b) 1 (prefix_len in_line (b ∷ rest)) h)
separates_len gap rest (comment {words} h e) = let run = line_run words rest h e in omega arith

same_len : (bytes : List ℕ) (n : ℕ) → TakesSeparator bytes n → n ≡ gap_len bytes
same_len bytes n t = sym (length-take-le n bytes t.within) ∙ separates_len (take n bytes) (drop n bytes) t.separates ∙ ap gap_len (take-append-drop n bytes)

same_separator : (bytes : List ℕ) (n m : ℕ) → TakesSeparator bytes n → TakesSeparator bytes m → n ≡ m
same_separator bytes n m s t = same_len bytes n s ∙ sym (same_len bytes m t)

blank_class : (b : ℕ) → is_blank b ≡ true → class b ≡ 0
blank_class b h = grind (arith, nat_tests)

blank_mark : (b c d : ℕ) → is_blank b ≡ true → mark_of b c d ≡ None
blank_mark b c d h = elim (or_cases (b == 32 || b == 9 || b == 13) (b == 10) h) [
  | inl h ↦ elim (or_cases (b == 32 || b == 9) (b == 13) h) [
    | inl h ↦ elim (or_cases (b == 32) (b == 9) h) [
      | inl h ↦ ap (λ x. mark_of x c d) (eqb-true b 32 h)
      | inr h ↦ ap (λ x. mark_of x c d) (eqb-true b 9 h)
    ]
    | inr h ↦ ap (λ x. mark_of x c d) (eqb-true b 13 h)
  ]
  | inr h ↦ ap (λ x. mark_of x c d) (eqb-true b 10 h)
]

-- where a separator begins, no token does
separator_apart : (bytes : List ℕ) (n : ℕ) → TakesSeparator bytes n → BeginsNoToken bytes
separator_apart bytes n t = elim (first_of (take n bytes) (drop n bytes) t.separates) [
  | inl h ↦
      let b = front_first bytes n h in
      no_mark bytes (blank_class (slice_index bytes 0) b) (blank_mark (slice_index bytes 0) (slice_index bytes 1) (slice_index bytes 2) b)
  | inr h ↦
      let b = (front_two bytes n h.0 h.1).0 in
      no_mark bytes (ap class b) (ap (λ x. mark_of x (slice_index bytes 1) (slice_index bytes 2)) b)
]

quote_apart : (b : ℕ) (rest : List ℕ) → is_quote b ≡ true → BeginsNoSeparator (b ∷ rest)
quote_apart b rest h = no_separator (b ∷ rest) (no_blank b h) (λ e _. no_slash b h e)
  where
    no_blank : (b : ℕ) → is_quote b ≡ true → is_blank b ≡ false
    no_blank b h = grind (arith, nat_tests)

    no_slash : (b : ℕ) → is_quote b ≡ true → b ≡ 47 → ⊥
    no_slash b h e = grind (arith, nat_tests)

nil_separator : BeginsNoSeparator []
nil_separator = no_separator [] refl (λ e _. absurd (omega arith))

nil_token : (n : ℕ) (l : Lexeme) → Spells (take n []) l → ⊥
nil_token zero l s = spelled_some l s
nil_token (suc n) l s = spelled_some l s

-- ---- readings

abbrev Placed : Type 0
Placed = ℕ × Lexeme

abbrev Same : List Placed → Option FilterFault → List Placed → Option FilterFault → Type 0
Same found fault other end = (found ≡ other) × (fault ≡ end)

after_done : {at : ℕ} {other : List Placed} {end : Option FilterFault} → Lexes at [] other end → Same [] None other end
after_done done = (refl, refl)
after_done (separator {n = n} t r) = absurd (nil_separator n t)
after_done (token {n = n} {lexeme = l} t g r) = absurd (nil_token n l t.spelled)
after_done (over_range {n = n} {lexeme = l} t g) = absurd (nil_token n l t.spelled)

after_separator : {at n : ℕ} {bytes : List ℕ} {found : List Placed} {fault : Option FilterFault} → TakesSeparator bytes n
    → ((other : List Placed) (end : Option FilterFault) → Lexes (at + n) (drop n bytes) other end → Same found fault other end)
    → {other : List Placed} {end : Option FilterFault} → Lexes at bytes other end → Same found fault other end
after_separator {n = n} t more done = absurd (nil_separator n t)
after_separator {at} {n} {bytes} t more {other} {end} (separator {n = m} s r) =
    let same = same_separator bytes n m t s in
    more other end (subst (λ k. Lexes (at + k) (drop k bytes) other end) (sym same) r)
after_separator {n = n} {bytes = bytes} t more (token {n = m} {lexeme = l} s g r) = absurd (separator_apart bytes n t m l s.spelled)
after_separator {n = n} {bytes = bytes} t more (over_range {n = m} {lexeme = l} s g) = absurd (separator_apart bytes n t m l s.spelled)
after_separator {n = n} t more (open_text {quote = b} {rest = rest} h none) = absurd (quote_apart b rest h n t)
after_separator {n = n} t more (no_token h apart none) = absurd (apart n t)

after_token : {at n : ℕ} {bytes : List ℕ} {l : Lexeme} {found : List Placed} {fault : Option FilterFault} → TakesLongest bytes n l → IsInRange l
    → ((other : List Placed) (end : Option FilterFault) → Lexes (at + n) (drop n bytes) other end → Same found fault other end)
    → {other : List Placed} {end : Option FilterFault} → Lexes at bytes other end → Same ((at, l) ∷ found) fault other end
after_token {n = n} {l = l} t g more done = absurd (nil_token n l t.spelled)
after_token {n = n} {bytes = bytes} {l = l} t g more (separator {n = m} s r) = absurd (separator_apart bytes m s n l t.spelled)
after_token {at} {n} {bytes} {l} t g more (token {n = m} {lexeme = k} {found = other} {fault = end} s f r) =
    let same = same_longest bytes n m l k t s in
    let rest = more other end (subst (λ i. Lexes (at + i) (drop i bytes) other end) (sym same.0) r) in
    let first = same.1 in
    (let tail = rest.0 in cc, rest.1)
after_token {n = n} {bytes = bytes} {l = l} t g more (over_range {n = m} {lexeme = k} s f) = absurd (f (subst IsInRange (same_longest bytes n m l k t s).1 g))
after_token {n = n} {l = l} t g more (open_text h none) = absurd (none n l t.spelled)
after_token {n = n} {l = l} t g more (no_token h apart none) = absurd (none n l t.spelled)

after_over : {at n : ℕ} {bytes : List ℕ} {l : Lexeme} → TakesLongest bytes n l → (IsInRange l → ⊥) → {other : List Placed} {end : Option FilterFault}
    → Lexes at bytes other end → Same [] (Some (NumberRange at)) other end
after_over {n = n} {l = l} t g done = absurd (nil_token n l t.spelled)
after_over {n = n} {bytes = bytes} {l = l} t g (separator {n = m} s r) = absurd (separator_apart bytes m s n l t.spelled)
after_over {n = n} {bytes = bytes} {l = l} t g (token {n = m} {lexeme = k} s f r) = absurd (g (subst IsInRange (sym (same_longest bytes n m l k t s).1) f))
after_over t g (over_range s f) = (refl, refl)
after_over {n = n} {l = l} t g (open_text h none) = absurd (none n l t.spelled)
after_over {n = n} {l = l} t g (no_token h apart none) = absurd (none n l t.spelled)

after_open : {at b : ℕ} {rest : List ℕ} → is_quote b ≡ true → BeginsNoToken (b ∷ rest) → {other : List Placed} {end : Option FilterFault}
    → Lexes at (b ∷ rest) other end → Same [] (Some (OpenString at)) other end
after_open {b = b} {rest = rest} h none (separator {n = m} s r) = absurd (quote_apart b rest h m s)
after_open h none (token {n = m} {lexeme = k} s f r) = absurd (none m k s.spelled)
after_open h none (over_range {n = m} {lexeme = k} s f) = absurd (none m k s.spelled)
after_open h none (open_text g other) = (refl, refl)
after_open h none (no_token g apart other) = cc

after_none : {at b : ℕ} {rest : List ℕ} → is_quote b ≡ false → BeginsNoSeparator (b ∷ rest) → BeginsNoToken (b ∷ rest) → {other : List Placed} {end : Option FilterFault}
    → Lexes at (b ∷ rest) other end → Same [] (Some (BadByte at)) other end
after_none h apart none (separator {n = m} s r) = absurd (apart m s)
after_none h apart none (token {n = m} {lexeme = k} s f r) = absurd (none m k s.spelled)
after_none h apart none (over_range {n = m} {lexeme = k} s f) = absurd (none m k s.spelled)
after_none h apart none (open_text g other) = cc
after_none h apart none (no_token g other more) = (refl, refl)

one_reading : {at : ℕ} {bytes : List ℕ} {found : List Placed} {fault : Option FilterFault} → Lexes at bytes found fault
    → {other : List Placed} {end : Option FilterFault} → Lexes at bytes other end → Same found fault other end
one_reading done s = after_done s
one_reading (separator t r) s = after_separator t (λ other end q. one_reading r q) s
one_reading (token t g r) s = after_token t g (λ other end q. one_reading r q) s
one_reading (over_range t g) s = after_over t g s
one_reading (open_text h none) s = after_open h none s
one_reading (no_token h apart none) s = after_none h apart none s

-- a text has one reading: the same tokens in the same places, and the same fault or none
pub same_lexing : (text : List ℕ) (found other : List Placed) (fault end : Option FilterFault) → Lexes 0 text found fault → Lexes 0 text other end → (found ≡ other) × (fault ≡ end)
same_lexing text found other fault end r s = one_reading r s
