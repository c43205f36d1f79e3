-- Starts of choices, and orders of prefixes.
use Rattle.std.proofs.Common.{◌≡◌, inl, inr, List, [], ◌∷◌, ◌++◌, refl, sym, ap, subst, ◌∙◌, append_assoc, Bool, true, false, cond}
use Rattle.std.specs.Prelude.{not}
use Rattle.std.specs.List.{list_any, list_all}
use Rattle.std.proofs.lemmas.List.{append-nil}
use Rattle.std.proofs.lemmas.Bool.{or_cases, or_left, or_right}
use Rattle.std.proofs.lemmas.List.Folds.{list_any-append}
use Rattle.pocket_types.specs.Paths.{same_prefix, prefixes_of}
use Rattle.pocket_types.specs.declared.expr.Op.{Op}
use Rattle.pocket_types.specs.declared.resolved.Leaf.{Leaf}
use Rattle.pocket_types.specs.declared.resolved.Prefix.{Prefix}
use Rattle.pocket_types.specs.declared.resolved.Resolved.{Resolved}
use Rattle.pocket_types.specs.declared.resolved.Root.{Root}
use Rattle.pocket_meaning.specs.Members.{Member}
use Rattle.pocket_meaning.specs.Sights.{Sight}
use Rattle.pocket_meaning.specs.Prefixes.{any_prefixes}
use Rattle.pocket_meaning.specs.Choices.{Choice, chosen, parent, related, or_nobody, choices_from}
use Rattle.pocket_meaning.specs.Choosing.{IsIn, IsChoice, bare, chosen_prefixes, among, HasAll, AreParentsFirst, rest_of, Agrees, IsStart, IsShared}
use Rattle.pocket_meaning.specs.Meaning.{test_under, test_always, true_under, true_in}
use Rattle.pocket_meaning.proofs.Picks.{prefix_is, has_firsts, among_left, flat_map_in, chosen_new, true_or_false, among_one, choice_from_list, some_from, some_to, each_from, each_to, nothing_start, holds_from_list, list_from_holds, always_from, always_to}

agrees_more : (c : Prefix → Member) (d : Choice) (x : Prefix × Member) → Agrees c d → c x.0 ≡ x.1 → Agrees c (d ++ x ∷ [])
agrees_more c [] x a h = (h, tt)
agrees_more c (y ∷ d) x a h = (a.0, agrees_more c d x a.1 h)

pub start_more :
    (s : Sight) (d : Choice) (p : Prefix) (m : Member) → AreParentsFirst [] (chosen_prefixes d ++ p ∷ []) → IsStart s d → among (chosen_prefixes d) p ≡ false → IsIn m (or_nobody (related s d p)) → IsStart s (d ++ (p, m) ∷ [])
start_more s d p m first start new picked =
    let e : Choice = d ++ (p, m) ∷ [] in
    let one : Member → List Choice = λ z. (d ++ (p, z) ∷ []) ∷ [] in
    let c = choice_from_list s d (p ∷ []) first start e (flat_map_in one (or_nobody (related s d p)) m e picked (inl refl)) in
    let last : among (chosen_prefixes d ++ p ∷ []) p ≡ true = list_any-append (λ x. same_prefix x p) (chosen_prefixes d) (p ∷ []) ∙ or_right (among (chosen_prefixes d) p) (among (p ∷ []) p) (among_one p) in
    (c.0, c.1, agrees_more c.0 d (p, m) c.2 (c.3 p last ∙ chosen_new d p m (has_firsts d p ∙ new)))

pub shared_start : (s : Sight) (d : Choice) → IsShared s d → IsStart s d
shared_start s d shared =
    let c = nothing_start s in
    (c.0, c.1, shared c.0 c.1)

pub one_member : (s : Sight) (c : Prefix → Member) (r : Root) (m : Member) → IsChoice s c → s.roots r ≡ m ∷ [] → c (bare r) ≡ m
one_member s c r m is alone = elim (subst (λ l. IsIn (c (bare r)) (or_nobody l)) alone (is.root r)) [ inl e ↦ e | inr g ↦ absurd g ]

-- two tests that are true of the same are the same
both_ways : (a b : Bool) → (a ≡ true → b ≡ true) → (b ≡ true → a ≡ true) → a ≡ b
both_ways a b to from =
    elim (true_or_false a) [
      | inl h ↦ h ∙ sym (to h)
      | inr h ↦ elim (true_or_false b) [ inl k ↦ from k ∙ sym k | inr k ↦ h ∙ sym k ]
    ]

pub shared_some :
    (s : Sight) (d : Choice) (ps : List Prefix) (f : Resolved) → AreParentsFirst [] (chosen_prefixes d ++ ps) → IsShared s d → HasAll (chosen_prefixes d ++ ps) (any_prefixes f) → list_any (λ e. true_under s (chosen e) f) (choices_from s ps d) ≡ true_in s f
shared_some s d ps f first shared all =
    both_ways (list_any (λ e. true_under s (chosen e) f) (choices_from s ps d)) (true_in s f)
    (λ h. (let c = some_from s d ps f first all (shared_start s d shared) h in list_from_holds s f (c.0, c.1, c.3)))
    (λ h. (let c = holds_from_list s f h in some_to s d ps f first all (c.0, c.1, shared c.0 c.1, c.2)))

pub shared_each :
    (s : Sight) (d : Choice) (ps : List Prefix) (l : Leaf) (o : Op) (r : Leaf) → AreParentsFirst [] (chosen_prefixes d ++ ps) → IsShared s d → HasAll (chosen_prefixes d ++ ps) (prefixes_of l ++ prefixes_of r) → list_all (λ e. test_under s (chosen e) l o r) (choices_from s ps d) ≡ test_always s l o r
shared_each s d ps l o r first shared all =
    both_ways (list_all (λ e. test_under s (chosen e) l o r) (choices_from s ps d)) (test_always s l o r)
    (λ h. always_to s l o r (λ c is. each_from s d ps l o r first all h c is (shared c is)))
    (λ h. each_to s d ps l o r first all (shared_start s d shared) (λ c is a. always_from s l o r h c is))

-- what a start has can be left out of a list with parents first
rest_first :
    (start done kept ps : List Prefix) → ((q : Prefix) → among start q ≡ true → among kept q ≡ true) → ((q : Prefix) → among done q ≡ true → among kept q ≡ true) → AreParentsFirst done ps → AreParentsFirst kept (rest_of start ps)
rest_first start done kept [] begins covers first = tt
rest_first start done kept (p ∷ ps) begins covers first =
    let kept_or : Bool → List Prefix = λ b. cond (not b) (p ∷ rest_of start ps) (rest_of start ps) in
    let one_more : (more : List Prefix) → ((q : Prefix) → among done q ≡ true → among more q ≡ true) → among more p ≡ true → (q : Prefix) → among (done ++ p ∷ []) q ≡ true → among more q ≡ true = λ more old here q h. elim (or_cases (among done q) (among (p ∷ []) q) (sym (list_any-append (λ x. same_prefix x q) done (p ∷ [])) ∙ h)) [ inl k ↦ old q k | inr k ↦ elim (or_cases (same_prefix p q) false k) [ inl e ↦ subst (λ z. among more z ≡ true) ((prefix_is p q).0 e) here | inr e ↦ cc ] ] in
    elim (true_or_false (among start p)) [
      | inl h ↦ subst (λ b. AreParentsFirst kept (kept_or b)) (sym h) (rest_first start (done ++ p ∷ []) kept ps begins (one_more kept covers (begins p h)) first.1)
      | inr h ↦
          (let more : List Prefix = kept ++ p ∷ [] in
          let last : among more p ≡ true = list_any-append (λ x. same_prefix x p) kept (p ∷ []) ∙ or_right (among kept p) (among (p ∷ []) p) (among_one p) in
          subst (λ b. AreParentsFirst kept (kept_or b)) (sym h) (elim first.0 [ inl n ↦ inl n | inr k ↦ inr (covers (parent p) k) ], rest_first start (done ++ p ∷ []) more ps (λ q k. among_left kept (p ∷ []) q (begins q k)) (one_more more (λ q k. among_left kept (p ∷ []) q (covers q k)) last) first.1))
    ]

rest_among : (start ps : List Prefix) (q : Prefix) → among start q ≡ false → among ps q ≡ true → among (rest_of start ps) q ≡ true
rest_among start [] q new h = h
rest_among start (p ∷ ps) q new h =
    let kept_or : Bool → List Prefix = λ b. cond (not b) (p ∷ rest_of start ps) (rest_of start ps) in
    elim (or_cases (same_prefix p q) (among ps q) h) [
      | inl e ↦ subst (λ b. among (kept_or b) q ≡ true) (sym (ap (among start) ((prefix_is p q).0 e) ∙ new)) (or_left (same_prefix p q) (among (rest_of start ps) q) e)
      | inr k ↦ elim (true_or_false (among start p)) [
        | inl old ↦ subst (λ b. among (kept_or b) q ≡ true) (sym old) (rest_among start ps q new k)
        | inr fresh ↦ subst (λ b. among (kept_or b) q ≡ true) (sym fresh) (or_right (same_prefix p q) (among (rest_of start ps) q) (rest_among start ps q new k))
      ]
    ]

rest_all : (start ps : List Prefix) (q : Prefix) → among ps q ≡ true → among (start ++ rest_of start ps) q ≡ true
rest_all start ps q h =
    elim (true_or_false (among start q)) [
      | inl k ↦ among_left start (rest_of start ps) q k
      | inr k ↦ list_any-append (λ x. same_prefix x q) start (rest_of start ps) ∙ or_right (among start q) (among (rest_of start ps) q) (rest_among start ps q k h)
    ]

both_parts : (before xs ys : List Prefix) → AreParentsFirst before xs → AreParentsFirst (before ++ xs) ys → AreParentsFirst before (xs ++ ys)
both_parts before [] ys a b = subst (λ l. AreParentsFirst l ys) (append-nil before) b
both_parts before (x ∷ xs) ys a b = (a.0, both_parts (before ++ x ∷ []) xs ys a.1 (subst (λ l. AreParentsFirst l ys) (sym (append_assoc before (x ∷ []) xs)) b))

pub rest_in_order :
    (start ps : List Prefix) → AreParentsFirst [] start → AreParentsFirst [] ps → AreParentsFirst [] (start ++ rest_of start ps) × ((q : Prefix) → among ps q ≡ true → among (start ++ rest_of start ps) q ≡ true)
rest_in_order start ps begins first = (both_parts [] start (rest_of start ps) begins (rest_first start [] start ps (λ q h. h) (λ q h. cc) first), rest_all start ps)
