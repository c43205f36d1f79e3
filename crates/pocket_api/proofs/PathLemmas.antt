-- The segments of a path, one after another.
use Rattle.std.proofs.Common.{◌≡◌, ◌<◌, ℕ, List, [], ◌∷◌, Bor, Some, None, Bool, true, false, length, refl, lit<, arith}
use Rattle.std.specs.Prelude.{◌&&◌}
use Rattle.std.specs.Cmp.Lexicographic.{pointwise}
use Rattle.std.specs.List.{position_or_len}
use Rattle.std.proofs.lemmas.List.Elements.{All-from_get_or}
use Rattle.std.proofs.lemmas.List.Splits.{length-slice_split, slice_split_first, slice_split_none}
use Rattle.std.proofs.lemmas.List.Sums.{fails_before_first}
use Rattle.std.proofs.lemmas.Str.Pattern.{IsSplitOnceResult, split_once_first}
use Rattle.pocket_api.specs.Routes.{fits, fits_segment, is_slash, segments}

-- a path without a slash is one segment
one_segment : (path : List ℕ) → position_or_len is_slash path ≡ length path → segments path ≡ path ∷ []
one_segment path none =
    slice_split_none is_slash path
    (All-from_get_or (λ b. is_slash b ≡ false) path 0 (λ i below. fails_before_first is_slash path i 0 (omega (arith, none, below))))

pub no_slash : (path : List ℕ) → IsSplitOnceResult 47 path None → segments path ≡ path ∷ []
no_slash path cut = one_segment path (split_once_first 47 path None cut (lit< tt))

-- a path with a slash is what stands before it, and the segments behind it
pub one_more : (path : List ℕ) (segment rest : Bor (List ℕ)) → IsSplitOnceResult 47 path (Some (segment, rest))
    → segments path ≡ segment.now ∷ segments rest.now
one_more path segment rest cut =
    let parts = split_once_first 47 path (Some (segment, rest)) cut (lit< tt) in
    rw (parts.1, parts.2) (slice_split_first is_slash path 0 parts.0)

-- ---- a route and a path, segment by segment

and_true : (a : Bool) → (a && true) ≡ a
and_true true = refl
and_true false = refl

and_false : (a : Bool) → (a && false) ≡ false
and_false true = refl
and_false false = refl

at_least_one : (text : List ℕ) → 0 < length (segments text)
at_least_one text = omega (arith, length-slice_split is_slash text)

module _ (route path word segment : List ℕ) where
  pub both_end : segments route ≡ word ∷ [] → segments path ≡ segment ∷ [] → fits route path ≡ fits_segment word segment
  unfolding fits
  both_end r p = rw (r, p) (and_true (fits_segment word segment))

  pub both_go_on : (words rest : List ℕ) → segments route ≡ word ∷ segments words → segments path ≡ segment ∷ segments rest
      → fits route path ≡ (fits_segment word segment && fits words rest)
  unfolding fits
  both_go_on words rest r p = rw (r, p) refl

  pub route_ends : (rest : List ℕ) → segments route ≡ word ∷ [] → segments path ≡ segment ∷ segments rest → fits route path ≡ false
  unfolding fits
  route_ends rest r p = rw (r, p) (one_side (segments rest) (at_least_one rest))
    where
      one_side : (more : List (List ℕ)) → 0 < length more → (fits_segment word segment && pointwise fits_segment [] more) ≡ false
      one_side [] h = absurd (omega (arith, h))
      one_side (s ∷ ss) h = and_false (fits_segment word segment)

  pub path_ends : (words : List ℕ) → segments route ≡ word ∷ segments words → segments path ≡ segment ∷ [] → fits route path ≡ false
  unfolding fits
  path_ends words r p = rw (r, p) (one_side (segments words) (at_least_one words))
    where
      one_side : (more : List (List ℕ)) → 0 < length more → (fits_segment word segment && pointwise fits_segment more []) ≡ false
      one_side [] h = absurd (omega (arith, h))
      one_side (s ∷ ss) h = and_false (fits_segment word segment)
