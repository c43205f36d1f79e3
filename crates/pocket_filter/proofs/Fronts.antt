-- The front of a text.
use Rattle.std.proofs.Common.{◌≡◌, ◌+◌, ◌-◌, ◌<◌, ◌≤◌, ℕ, zero, suc, List, [], ◌∷◌, ◌++◌, length, get_or, take, drop, slice_index, sym, ap, ◌∙◌, subst, arith, take-append-drop, add-zero}
use Rattle.std.proofs.lemmas.List.{length-take-le, get_or-take, take-take, drop-take, take_rest, get_or-drop}
use Rattle.std.proofs.lemmas.Str.{IsCharBoundary-after_ascii}
use Rattle.std.specs.List.{AllByRecursion}
use Rattle.std.specs.Prelude.{slice_range}
use Rattle.std.specs.Str.{IsUtf8, IsCharBoundary}
use Rattle.pocket_filter.specs.Tokens.{Lexeme}
use Rattle.pocket_filter.specs.Lexing.{Spells, TakesLongest, BeginsNoToken}

-- what `&bytes[..n]` gives
pub slice_front : (bytes front : List ℕ) (n : ℕ) → front ≡ slice_range bytes 0 n → front ≡ take n bytes
slice_front bytes front n e = let same : n - 0 ≡ n = omega arith in e ∙ ap (λ k. take k bytes) same

-- what `&bytes[start..]` gives
pub slice_rest : (bytes text : List ℕ) (start k : ℕ) → bytes ≡ text → start ≡ k → slice_range bytes start (length bytes) ≡ drop k text
slice_rest bytes text start k e f = take_rest bytes start ∙ ap (λ n. drop n bytes) f ∙ ap (drop k) e

-- what `bytes[start]` is of that
pub index_rest : (bytes text : List ℕ) (start k : ℕ) → bytes ≡ text → start ≡ k → slice_index bytes start ≡ slice_index (drop k text) 0
index_rest bytes text start k e f = ap (λ n. slice_index bytes n) f ∙ ap (λ s. slice_index s k) e ∙ sym (get_or-drop k text 0 0 ∙ ap (λ n. slice_index text n) (add-zero k))

pub take_add : (m n : ℕ) (xs : List ℕ) → take (m + n) xs ≡ take m xs ++ take n (drop m xs)
take_add m n xs = sym (take-append-drop m (take (m + n) xs)) ∙ ap (λ s. s ++ drop m (take (m + n) xs)) (take-take m (m + n) xs (omega arith)) ∙ ap (λ s. take m xs ++ s) (drop-take m n xs)

-- each token at the front is at most n long
abbrev pub AtMost : List ℕ → ℕ → Type 0
AtMost bytes n = (token rest : List ℕ) (l : Lexeme) → bytes ≡ token ++ rest → Spells token l → length token ≤ n

pub longest_by : (bytes : List ℕ) (n : ℕ) (l : Lexeme) → n ≤ length bytes → Spells (take n bytes) l → AtMost bytes n → TakesLongest bytes n l
longest_by bytes n l within spelled most = record {
  within = within;
  spelled = spelled;
  longest = λ m other short s.
      let long = length-take-le m bytes short in
      let bound = most (take m bytes) (drop m bytes) other (sym (take-append-drop m bytes)) s in
      omega arith;
}

pub none_by : (bytes : List ℕ) → ((token rest : List ℕ) (l : Lexeme) → bytes ≡ token ++ rest → Spells token l → ⊥) → BeginsNoToken bytes
none_by bytes none m other s = none (take m bytes) (drop m bytes) other (sym (take-append-drop m bytes)) s

abbrev pub AreAscii : List ℕ → Type 0
AreAscii bytes = AllByRecursion (λ b. b < 128) bytes

pub ascii_append : (xs ys : List ℕ) → AreAscii xs → AreAscii ys → AreAscii (xs ++ ys)
ascii_append [] ys h g = g
ascii_append (x ∷ xs) ys h g = (h.0, ascii_append xs ys h.1 g)

ascii_at : (bytes : List ℕ) (k : ℕ) → AreAscii bytes → get_or bytes k 0 < 128
ascii_at [] k h = omega arith
ascii_at (b ∷ bytes) zero h = h.0
ascii_at (b ∷ bytes) (suc k) h = ascii_at bytes k h.1

-- a text may be cut after ASCII bytes
pub boundary_after : (bytes : List ℕ) (n : ℕ) → IsUtf8 bytes → 0 < n → n ≤ length bytes → AreAscii (take n bytes) → IsCharBoundary bytes n
boundary_after bytes n utf8 some within ascii =
    let before : n - 1 < n = omega arith in
    let last : get_or bytes (n - 1) 0 < 128 = subst (λ b. b < 128) (get_or-take n bytes (n - 1) 0 before) (ascii_at (take n bytes) (n - 1) ascii) in
    let same : n - 1 + 1 ≡ n = omega arith in
    subst (IsCharBoundary bytes) same (IsCharBoundary-after_ascii bytes (n - 1) utf8 (omega arith) last)
