-- Where separators are.
use Rattle.std.proofs.Common.{◌≡◌, ◌≢◌, ◌+◌, ◌<◌, ◌==◌, ◌⊎◌, inl, inr, ℕ, zero, suc, List, [], ◌∷◌, length, get_or, take, drop, slice_index, true, false, Bool, refl, sym, subst, arith, one-add}
use Rattle.std.proofs.lemmas.Bool.{eqb-true, eqb-false, not-false}
use Rattle.std.proofs.lemmas.List.Sums.{prefix_len-le-length, prefix_len_stops}
use Rattle.std.specs.List.{AllByRecursion, prefix_len}
use Rattle.std.specs.Str.{IsUtf8, IsCharBoundary}
use Rattle.std.proofs.lemmas.Str.{IsCharBoundary-after_ascii}
use Rattle.std.proofs.lemmas.Bool.Decides.{nat_tests}
use Rattle.pocket_filter.specs.Lexing.{is_blank, ends_line, Separates, blank, comment, TakesSeparator, BeginsNoSeparator}
use Rattle.pocket_filter.specs.Scanning.{in_line}

-- ---- none

-- what a separator begins with
pub first_of : (gap rest : List ℕ) → Separates gap rest → (is_blank (slice_index gap 0) ≡ true) ⊎ ((slice_index gap 0 ≡ 47) × (slice_index gap 1 ≡ 47))
first_of gap rest (blank h) = inl h
first_of gap rest (comment h g) = inr (refl, refl)

pub front_first : (bytes : List ℕ) (n : ℕ) → is_blank (slice_index (take n bytes) 0) ≡ true → is_blank (slice_index bytes 0) ≡ true
front_first bytes zero h = cc
front_first [] (suc n) h = cc
front_first (b ∷ bytes) (suc n) h = h

pub front_two : (bytes : List ℕ) (n : ℕ) → slice_index (take n bytes) 0 ≡ 47 → slice_index (take n bytes) 1 ≡ 47 → (slice_index bytes 0 ≡ 47) × (slice_index bytes 1 ≡ 47)
front_two bytes zero h g = cc
front_two [] (suc zero) h g = cc
front_two (b ∷ bytes) (suc zero) h g = cc
front_two [] (suc (suc n)) h g = cc
front_two (b ∷ []) (suc (suc n)) h g = (h, g)
front_two (b ∷ c ∷ bytes) (suc (suc n)) h g = (h, g)

pub no_separator : (bytes : List ℕ) → is_blank (slice_index bytes 0) ≡ false → (slice_index bytes 0 ≡ 47 → slice_index bytes 1 ≢ 47) → BeginsNoSeparator bytes
no_separator bytes no_blank no_comment n t = elim (first_of (take n bytes) (drop n bytes) t.separates) [
  | inl h ↦ let b = front_first bytes n h in cc
  | inr h ↦ let b = front_two bytes n h.0 h.1 in absurd (no_comment b.0 b.1)
]

-- ---- blanks

pub blank_found : (bytes : List ℕ) → 0 < length bytes → is_blank (slice_index bytes 0) ≡ true → TakesSeparator bytes 1
blank_found [] some h = absurd (omega arith)
blank_found (b ∷ bytes) some h = record { within = omega arith; separates = blank h }

-- ---- comments

line_front : (bytes : List ℕ) → AllByRecursion (λ b. b ≢ 10) (take (prefix_len in_line bytes) bytes)
line_front [] = tt
line_front (b ∷ bytes) = go (b == 10) refl (line_front bytes)
  where
    go : (t : Bool) → (b == 10) ≡ t → AllByRecursion (λ b. b ≢ 10) (take (prefix_len in_line bytes) bytes) → AllByRecursion (λ b. b ≢ 10) (take (prefix_len in_line (b ∷ bytes)) (b ∷ bytes))
    go true e more = rw e tt
    go false e more = rw (e, one-add) (eqb-false b 10 e, more)

line_ends : (bytes : List ℕ) → ends_line (drop (prefix_len in_line bytes) bytes) ≡ true
line_ends [] = refl
line_ends (b ∷ bytes) = go (b == 10) refl (line_ends bytes)
  where
    go : (t : Bool) → (b == 10) ≡ t → ends_line (drop (prefix_len in_line bytes) bytes) ≡ true → ends_line (drop (prefix_len in_line (b ∷ bytes)) (b ∷ bytes)) ≡ true
    go true e more = rw e e
    go false e more = rw (e, one-add) more

comment_taken : (bytes : List ℕ) → TakesSeparator (47 ∷ 47 ∷ bytes) (2 + prefix_len in_line bytes)
comment_taken bytes =
    let within = prefix_len-le-length in_line bytes in
    let more : 2 + prefix_len in_line bytes ≡ suc (suc (prefix_len in_line bytes)) = omega arith in
    subst (TakesSeparator (47 ∷ 47 ∷ bytes)) (sym more) (record { within = omega arith; separates = comment (line_front bytes) (line_ends bytes) })

line_boundary : (bytes : List ℕ) → IsCharBoundary bytes (prefix_len in_line bytes)
line_boundary bytes = (
  prefix_len-le-length in_line bytes,
  λ within high.
      let feed : get_or bytes (prefix_len in_line bytes) 0 ≡ 10 = eqb-true _ 10 (not-false _ (prefix_len_stops in_line bytes 0 within)) in
      absurd (omega arith),
)

slashes : (bytes : List ℕ) → slice_index bytes 0 ≡ 47 → slice_index bytes 1 ≡ 47 → (rest : List ℕ) × (bytes ≡ 47 ∷ 47 ∷ rest)
slashes [] first second = cc
slashes (b ∷ []) first second = cc
slashes (b ∷ c ∷ rest) first second = (rest, cc)

-- what is at the front of bytes that begin with two slashes
pub comment_found : (bytes : List ℕ) → slice_index bytes 0 ≡ 47 → slice_index bytes 1 ≡ 47 → (0 < prefix_len in_line bytes) × TakesSeparator bytes (prefix_len in_line bytes) × IsCharBoundary bytes (prefix_len in_line bytes)
comment_found bytes first second =
    let r = slashes bytes first second in
    let same : 2 + prefix_len in_line r.0 ≡ 1 + (1 + prefix_len in_line r.0) = omega arith in
    let some : 0 < 1 + (1 + prefix_len in_line r.0) = omega arith in
    let taken = subst (TakesSeparator (47 ∷ 47 ∷ r.0)) same (comment_taken r.0) in
    subst (λ bs. (0 < prefix_len in_line bs) × TakesSeparator bs (prefix_len in_line bs) × IsCharBoundary bs (prefix_len in_line bs)) (sym r.1) (some, taken, line_boundary (47 ∷ 47 ∷ r.0))

blank_small : (b : ℕ) → is_blank b ≡ true → b < 128
blank_small b h = grind (arith, nat_tests)

-- what is at the front of bytes that begin with a blank
pub blank_piece : (bytes : List ℕ) → IsUtf8 bytes → 0 < length bytes → is_blank (slice_index bytes 0) ≡ true → (0 < 1) × TakesSeparator bytes 1 × IsCharBoundary bytes 1
blank_piece bytes utf8 some h =
    let positive : 0 < 1 = omega arith in
    let boundary = IsCharBoundary-after_ascii bytes 0 utf8 some (blank_small (slice_index bytes 0) h) in
    (positive, blank_found bytes some h, boundary)
