-- Undoing the escapes of a text, character by character.
use Rattle.std.proofs.Common.{◌≡◌, ◌≢◌, ◌+◌, ◌<◌, ◌==◌, ◌||◌, inl, inr, ℕ, suc, List, [], ◌∷◌, ◌++◌, length, drop, get_or, Bool, true, false, refl, sym, ap, ◌∙◌, subst, arith, append-nil, ne_eqb, encode_utf8}
use Rattle.std.proofs.lemmas.Bool.{eqb-true, eqb-false, or_cases, or_parts}
use Rattle.std.proofs.lemmas.List.{drop_more}
use Rattle.std.proofs.lemmas.Str.{encode_ascii, inside_one, encodes-chars, length-encode, len_utf8_bounds}
use Rattle.std.specs.List.{AllByRecursion}
use Rattle.std.specs.Prelude.{encode_utf8_all}
use Rattle.std.specs.Str.{IsUtf8, chars}
use Rattle.pocket_filter.specs.Operands.{unescaped}
use Rattle.pocket_filter.specs.Scanning.{escapes, given_by, given}

-- ---- bytes

plain : (quote b : ℕ) (rest : List ℕ) → b ≢ 92 → unescaped quote (b ∷ rest) ≡ b ∷ unescaped quote rest
plain quote b [] n = refl
plain quote b (c ∷ rest) n = rw (ne_eqb b 92 n) refl

plain_run : (quote : ℕ) (bytes rest : List ℕ) → AllByRecursion (λ b. b ≢ 92) bytes → unescaped quote (bytes ++ rest) ≡ bytes ++ unescaped quote rest
plain_run quote [] rest h = refl
plain_run quote (b ∷ bytes) rest h = plain quote b (bytes ++ rest) h.0 ∙ ap (λ s. b ∷ s) (plain_run quote bytes rest h.1)

by_index : (d : ℕ) (bytes : List ℕ) → ((k : ℕ) → k < length bytes → get_or bytes k 0 ≢ d) → AllByRecursion (λ b. b ≢ d) bytes
by_index d [] h = tt
by_index d (b ∷ bytes) h = (h 0 (omega arith), by_index d bytes (λ k l. h (suc k) (omega arith)))

-- an ASCII byte stands in its own character alone
apart : (c d : ℕ) → d < 128 → c ≢ d → AllByRecursion (λ b. b ≢ d) (encode_utf8 c)
apart c d small n = by_index d (encode_utf8 c) (λ k l e.
    let low : get_or (encode_utf8 c) k 0 < 128 = omega arith in
    n (inside_one c [] (encode_utf8 c) k (sym (append-nil (encode_utf8 c))) l low ∙ e))

some_byte : (c : ℕ) → 0 < length (encode_utf8 c)
some_byte c = let bounds = len_utf8_bounds c in let low = bounds.0 in let long = length-encode c in omega arith

-- ---- one character

escape_of : (quote c : ℕ) (rest : List ℕ) → (c == quote || c == 92) ≡ true → unescaped quote (92 ∷ c ∷ rest) ≡ c ∷ unescaped quote rest
escape_of quote c rest e = rw e refl

no_escape_of : (quote : ℕ) (bytes rest : List ℕ) → 0 < length bytes → AllByRecursion (λ b. b ≢ quote) bytes → AllByRecursion (λ b. b ≢ 92) bytes
    → unescaped quote (92 ∷ (bytes ++ rest)) ≡ 92 ∷ (bytes ++ unescaped quote rest)
no_escape_of quote [] rest some h g = absurd (omega arith)
no_escape_of quote (b ∷ bytes) rest some h g = rw (ne_eqb b quote h.0, ne_eqb b 92 g.0) (ap (λ s. 92 ∷ s) (plain_run quote (b ∷ bytes) rest g))

-- the bytes that the characters give, after a backslash where the first is escaped
abbrev before : Bool → List ℕ → List ℕ
before true bytes = 92 ∷ bytes
before false bytes = bytes

abbrev AreGiven : ℕ → Bool → List ℕ → Type 0
AreGiven quote escaped cs = given quote escaped cs ≡ unescaped quote (before escaped (encode_utf8_all cs))

given_plain : (quote c : ℕ) (rest : List ℕ) (t : Bool) → (c == 92) ≡ t → AreGiven quote true rest → AreGiven quote false rest → AreGiven quote false (c ∷ rest)
given_plain quote c rest true e escape more =
    let same = eqb-true c 92 e in
    let small : 92 < 128 = omega arith in
    subst (λ x. AreGiven quote false (x ∷ rest)) (sym same) (escape ∙ ap (λ s. unescaped quote (s ++ encode_utf8_all rest)) (sym (encode_ascii 92 small)))
given_plain quote c rest false e escape more =
    let bytes = encode_utf8 c in
    let run = plain_run quote bytes (encode_utf8_all rest) (apart c 92 (omega arith) (eqb-false c 92 e)) in
    rw e (ap (λ s. bytes ++ s) more ∙ sym run)

given_escaped : (quote c : ℕ) (rest : List ℕ) (t : Bool) → quote < 128 → (c == quote || c == 92) ≡ t → AreGiven quote false rest → AreGiven quote true (c ∷ rest)
given_escaped quote c rest true small e more =
    let low : c < 128 = elim (or_cases (c == quote) (c == 92) e) [
      | inl f ↦ let same = eqb-true c quote f in omega arith
      | inr f ↦ let same = eqb-true c 92 f in omega arith
    ] in
    let here : given_by quote true c ≡ encode_utf8 c = rw e refl in
    let P : List ℕ → Type 0 = λ s. s ++ given quote false rest ≡ unescaped quote (92 ∷ (s ++ encode_utf8_all rest)) in
    ap (λ s. s ++ given quote false rest) here ∙ subst P (sym (encode_ascii c low)) (ap (λ s. c ∷ s) more ∙ sym (escape_of quote c (encode_utf8_all rest) e))
given_escaped quote c rest false small e more =
    let here : given_by quote true c ≡ 92 ∷ encode_utf8 c = rw e refl in
    let parts = or_parts (c == quote) (c == 92) e in
    let bytes = encode_utf8 c in
    let run = no_escape_of quote bytes (encode_utf8_all rest) (some_byte c) (apart c quote small (eqb-false c quote parts.0)) (apart c 92 (omega arith) (eqb-false c 92 parts.1)) in
    ap (λ s. s ++ given quote false rest) here ∙ ap (λ s. 92 ∷ (bytes ++ s)) more ∙ sym run

all_given : (quote : ℕ) (escaped : Bool) (cs : List ℕ) → quote < 128 → AreGiven quote escaped cs
all_given quote true [] small = refl
all_given quote false [] small = refl
all_given quote true (c ∷ cs) small = given_escaped quote c cs (c == quote || c == 92) small refl (all_given quote false cs small)
all_given quote false (c ∷ cs) small = given_plain quote c cs (c == 92) refl (all_given quote true cs small) (all_given quote false cs small)

-- the characters of a text give its bytes with the escapes undone
pub given_whole : (quote : ℕ) (bytes : List ℕ) → quote < 128 → IsUtf8 bytes → given quote false (chars bytes) ≡ unescaped quote bytes
given_whole quote bytes small utf8 = all_given quote false (chars bytes) small ∙ ap (unescaped quote) (encodes-chars bytes utf8)

-- the step at a place
pub given_more : (quote : ℕ) (escaped : Bool) (cs : List ℕ) (n c : ℕ) → (n < length cs) × (c ≡ get_or cs n c)
    → given quote escaped (drop n cs) ≡ given_by quote escaped c ++ given quote (escapes escaped c) (drop (n + 1) cs)
given_more quote escaped cs n c h =
    ap (given quote escaped) (drop_more cs n c h.0) ∙ ap (λ x. given_by quote escaped x ++ given quote (escapes escaped x) (drop (n + 1) cs)) (sym h.1)
