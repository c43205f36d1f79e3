-- Where a name is cut.
use Rattle.std.proofs.Common.{◌≡◌, ℕ, zero, suc, ◌+◌, ◌<◌, ◌≤◌, false, cond, List, [], ◌∷◌, ◌++◌, length, take, drop, Option, Some, None, option_map, MatchOption, codes, refl, sym, ap, ◌∙◌, arith}
use Rattle.std.specs.Str.Pattern.{FindsText, LacksTextAt}
use Rattle.std.proofs.lemmas.Str.Pattern.{starts_text}
use denote.Ref.{Bor}
use Rattle.pocket_resolve.specs.Names.{cut_at_via}

abbrev via : List ℕ
via = codes "_via_"

-- what a name is cut into where its first byte begins no `_via_`
cut_later : (c : ℕ) (cs : List ℕ) → LacksTextAt via (c ∷ cs) 0 → cut_at_via (c ∷ cs) ≡ option_map (λ parts. (c ∷ parts.0, parts.1)) (cut_at_via cs)
cut_later c cs lacks =
    ap (λ b. cond b (Some ([], drop 5 (c ∷ cs))) (option_map (λ parts. (c ∷ parts.0, parts.1)) (cut_at_via cs))) (sym (starts_text false via (c ∷ cs) lacks))

-- a name is cut at the first `_via_`
pub cut_at_first : (s rest : List ℕ) (i : ℕ) → ((j : ℕ) → j < i → LacksTextAt via s j) → drop i s ≡ via ++ rest → cut_at_via s ≡ Some (take i s, rest)
cut_at_first [] rest zero lacks is = absurd cc
cut_at_first [] rest (suc i) lacks is = absurd cc
cut_at_first (c ∷ cs) rest zero lacks is = ap cut_at_via is
cut_at_first (c ∷ cs) rest (suc i) lacks is =
    cut_later c cs (lacks 0 (omega arith))
    ∙ ap (option_map (λ parts. (c ∷ parts.0, parts.1))) (cut_at_first cs rest i (λ j h. lacks (suc j) (omega arith)) is)

-- a name without `_via_` isn't cut
pub cut_nowhere : (s : List ℕ) → ((i : ℕ) → i ≤ length s → LacksTextAt via s i) → cut_at_via s ≡ None
cut_nowhere [] lacks = refl
cut_nowhere (c ∷ cs) lacks =
    cut_later c cs (lacks 0 (omega arith))
    ∙ ap (option_map (λ parts. (c ∷ parts.0, parts.1))) (cut_nowhere cs (λ i h. lacks (suc i) (omega arith)))

-- what `split_once` gives is the cut
pub split_is_cut : (s : List ℕ) (r : Option (Bor (List ℕ) × Bor (List ℕ))) → MatchOption r (FindsText via s None) (λ x. (i : ℕ) × (j : ℕ) × FindsText via s (Some (i, j)) × (x.0.now ≡ take i s) × (x.1.now ≡ drop j s) × (i ≤ j) × (length x.0.now ≡ i) × (length x.1.now + j ≡ length s)) → option_map (λ parts. (parts.0.now, parts.1.now)) r ≡ cut_at_via s
split_is_cut s None h = sym (cut_nowhere s h)
split_is_cut s (Some x) h =
    let pair : List ℕ → List ℕ → Option (List ℕ × List ℕ) = λ a b. Some (a, b) in
    ap (λ a. pair a x.1.now) h.3 ∙ ap (pair (take h.0 s)) h.4 ∙ sym (cut_at_first s (drop h.1 s) h.0 h.2.0 h.2.1.split)
