-- A set of the texts so far tells whether the next one is new.
use Rattle.std.proofs.Common.{◌≡◌, ◌≢◌, ◌<◌, ◌≤◌, ◌+◌, ◌↔◌, ◌⊎◌, inl, inr, ℕ, Bool, true, false, not, cond, List, [], ◌∷◌, ◌++◌, length, take, get_or, Contains, IsTrue, Bor, BTreeSet, refl, sym, ap, subst, ◌∙◌, arith}
use Rattle.std.specs.BTreeSet as sorted
use Rattle.std.specs.Cmp.Lexicographic.{slice_cmp}
use Rattle.std.specs.List.{list_any}
use Rattle.std.specs.Ordering.{nat_cmp, is_eq}
use Rattle.std.specs.Str.{bytes_eq}
use Rattle.std.specs.declared.cmp.Ordering.{Ordering}
use Rattle.std.proofs.lemmas.Grind.{common_steps}
use Rattle.std.proofs.lemmas.List.{get_or_default}
use Rattle.std.proofs.lemmas.List.Elements.{Contains-append_left, Contains-push, Contains-push_cases}
use Rattle.std.proofs.lemmas.List.Quantifiers.{all_pairs_push}
use Rattle.std.proofs.lemmas.Map.Text.{is_eq-slice_cmp}
use Rattle.pocket_rows.proofs.MemberLemmas.{same_text, text_itself}
use Rattle.pocket_types.specs.Sound.{Differ}

abbrev pub by_text : Bor (List ℕ) → Bor (List ℕ) → Ordering
by_text a b = slice_cmp nat_cmp a.now b.now

-- the set holds these texts, which differ
pub record Holds (s : BTreeSet (Bor (List ℕ))) (texts : List (List ℕ)) : Type 0 where
  pub differ : Differ texts
  pub same : (q : Bor (List ℕ)) → IsTrue (sorted.contains by_text s q) ↔ Contains texts q.now

pub holds_none : (s : BTreeSet (Bor (List ℕ))) → s.keys ≡ [] → Holds s []
holds_none s e = record {
  differ = λ i j d l m. absurd (omega (arith, m));
  same = λ q. ((λ h. let clash : true ≡ false = sym h ∙ ap (list_any (λ k. is_eq (by_text q k))) e in cc), (λ h. absurd (omega (arith, h.1))));
}

is_new : (texts : List (List ℕ)) (x : List ℕ) → Differ texts → ¬ Contains texts x → Differ (texts ++ x ∷ [])
is_new texts x so other = all_pairs_push (λ a b. a ≢ b) texts x so (λ k d m e. other (k, m, get_or_default texts k x d m ∙ e))

pub holds_more : (s n : BTreeSet (Bor (List ℕ))) (texts : List (List ℕ)) (k : Bor (List ℕ)) (r : Bool) → Holds s texts → r ≡ not (sorted.contains by_text s k) → r ≡ true → sorted.Updates by_text s n k true
    → Holds n (texts ++ k.now ∷ [])
holds_more s n texts k r h new added u = record { differ = is_new texts k.now h.differ other; same = λ q. (there q, back q) }
  where
    fresh : (b : Bool) → r ≡ not b → r ≡ true → b ≡ true → ⊥
    fresh b e y t = let clash : true ≡ false = sym y ∙ e ∙ ap not t in cc

    other : ¬ Contains texts k.now
    other c = fresh (sorted.contains by_text s k) new added ((h.same k).1 c)

    same_now : (q : Bor (List ℕ)) → is_eq (by_text k q) ≡ true → k.now ≡ q.now
    same_now q e = same_text k.now q.now (sym (is_eq-slice_cmp k.now q.now) ∙ e)

    there_by : (q : Bor (List ℕ)) (b : Bool) → is_eq (by_text k q) ≡ b → cond b true (sorted.contains by_text s q) ≡ true → Contains (texts ++ k.now ∷ []) q.now
    there_by q true is t = subst (Contains (texts ++ k.now ∷ [])) (same_now q is) (Contains-push texts k.now)
    there_by q false is t = Contains-append_left texts (k.now ∷ []) q.now ((h.same q).0 t)

    there : (q : Bor (List ℕ)) → IsTrue (sorted.contains by_text n q) → Contains (texts ++ k.now ∷ []) q.now
    there q t = there_by q (is_eq (by_text k q)) refl (sym (u.0 q) ∙ t)

    any : (b : Bool) → cond b true true ≡ true
    any true = refl
    any false = refl

    back_by : (q : Bor (List ℕ)) → Contains texts q.now ⊎ (k.now ≡ q.now) → IsTrue (sorted.contains by_text n q)
    back_by q (inl c) = u.0 q ∙ ap (cond (is_eq (by_text k q)) true) ((h.same q).1 c) ∙ any (is_eq (by_text k q))
    back_by q (inr e) = u.0 q ∙ ap (λ b. cond b true (sorted.contains by_text s q)) (is_eq-slice_cmp k.now q.now ∙ ap (bytes_eq k.now) (sym e) ∙ text_itself k.now)

    back : (q : Bor (List ℕ)) → Contains (texts ++ k.now ∷ []) q.now → IsTrue (sorted.contains by_text n q)
    back q c = back_by q (Contains-push_cases texts k.now q.now c)

-- ---- going over a list of texts

taken_more : (texts : List (List ℕ)) (i : ℕ) (x : List ℕ) → i < length texts → x ≡ get_or texts i x → take (i + 1) texts ≡ take i texts ++ x ∷ []
taken_more texts i x l here = grind (arith, common_steps)

pub holds_next : (s n : BTreeSet (Bor (List ℕ))) (texts : List (List ℕ)) (i : ℕ) (x : List ℕ) (k : Bor (List ℕ)) (r : Bool) → i < length texts → x ≡ get_or texts i x → k.now ≡ x → Holds s (take i texts)
    → r ≡ not (sorted.contains by_text s k) → r ≡ true → sorted.Updates by_text s n k true → Holds n (take (i + 1) texts)
holds_next s n texts i x k r l here is h new added u =
    subst (Holds n) (ap (λ y. take i texts ++ y ∷ []) is ∙ sym (taken_more texts i x l here)) (holds_more s n (take i texts) k r h new added u)

twice : (texts : List (List ℕ)) (i : ℕ) (x : List ℕ) → i < length texts → x ≡ get_or texts i x → Contains (take i texts) x → ¬ Differ texts
twice texts i x l here c differ =
    let below : c.0 < i = grind (arith, common_steps, c.1) in
    differ c.0 i x below l (grind (arith, common_steps))

pub holds_twice : (s : BTreeSet (Bor (List ℕ))) (texts : List (List ℕ)) (i : ℕ) (x : List ℕ) (k : Bor (List ℕ)) (r : Bool) → i < length texts → x ≡ get_or texts i x → k.now ≡ x → Holds s (take i texts)
    → r ≡ not (sorted.contains by_text s k) → r ≡ false → IsTrue false ↔ Differ texts
holds_twice s texts i x k r l here is h new old =
    ((λ f. let clash : true ≡ false = sym f in cc), (λ d. absurd (twice texts i x l here (subst (Contains (take i texts)) is ((h.same k).0 (found (sorted.contains by_text s k) (sym new ∙ old)))) d)))
  where
    found : (b : Bool) → not b ≡ false → b ≡ true
    found true e = refl
    found false e = cc

pub holds_whole : (s : BTreeSet (Bor (List ℕ))) (texts : List (List ℕ)) (i : ℕ) → length texts ≤ i → Holds s (take i texts) → IsTrue true ↔ Differ texts
holds_whole s texts i l h = let whole : take i texts ≡ texts = grind (arith, common_steps) in ((λ _. subst Differ whole h.differ), (λ _. refl))
