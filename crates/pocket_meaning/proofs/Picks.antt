-- The list of choices against the relation.
use Rattle.std.proofs.Common.{◌≡◌, ℕ, zero, suc, ◌-◌, ◌≤◌, ◌⊎◌, inl, inr, List, [], ◌∷◌, ◌++◌, length, get_or, take, map, fold, flat_map, refl, sym, ap, subst, arith, ◌∙◌, Bool, true, false, cond, ◌&&◌, ◌||◌}
use Rattle.std.specs.Prelude.{Some, None, find}
use Rattle.std.specs.Bool.{Decides}
use Rattle.std.specs.List.{list_any, list_all}
use Rattle.std.specs.Option.{option_map_or}
use Rattle.std.specs.Cmp.Lexicographic.{pointwise}
use Rattle.std.specs.Str.{bytes_eq}
use Rattle.std.proofs.lemmas.Grind.{common_steps}
use Rattle.std.proofs.lemmas.Bool.Decides.{nat_tests, Decides-and, Decides-like}
use Rattle.std.proofs.lemmas.Slice.Eq.{slice_eq-Decides, bytes_eq-Decides}
use Rattle.pocket_types.specs.declared.resolved.Prefix.{Prefix}
use Rattle.pocket_types.specs.declared.resolved.Root.{Root}
use Rattle.pocket_types.specs.declared.resolved.Root.TheVariants as root
use Rattle.pocket_types.specs.declared.resolved.Step.{Step}
use Rattle.pocket_types.specs.declared.resolved.Step.TheVariants as step
use Rattle.pocket_meaning.specs.Members.{Member}
use Rattle.pocket_meaning.specs.Members as member
use Rattle.pocket_types.specs.Paths.{same_root, same_step, same_prefix, begun, with_prefix, with_parents, prefixes_of}
use Rattle.pocket_types.specs.Inductions.{resolved_induction}
use Rattle.pocket_meaning.specs.Prefixes.{any_prefixes}
use Rattle.pocket_meaning.specs.Sights.{Sight, value_of}
use Rattle.pocket_meaning.specs.Choices.{Choice, chosen, parent, last_step, seen_from, related, or_nobody, choices_from}
use Rattle.pocket_meaning.specs.Choosing.{IsIn, IsChoice, Holds, bare, then_step, chosen_prefixes, among, HasAll, AreParentsFirst, Agrees, IsStart}
use Rattle.pocket_meaning.specs.Meaning.{test_under, test_always, true_under, true_in}
use Rattle.pocket_meaning.specs.Values.{item_value}
use Rattle.pocket_ops.specs.Comparison.{compare_values}
use Rattle.pocket_types.specs.declared.expr.Op.{Op}
use Rattle.pocket_types.specs.declared.resolved.Leaf.{Leaf}
use Rattle.pocket_types.specs.declared.resolved.Leaf.TheVariants as leaf
use Rattle.pocket_types.specs.declared.resolved.Resolved.{Resolved}
use Rattle.pocket_types.specs.declared.resolved.Resolved.TheVariants as made
use Rattle.pocket_meaning.proofs.Layers.{true-any, true-plain, true-and, true-or, prefixes-any, prefixes-and, prefixes-or}
use Rattle.std.proofs.lemmas.Bool.{or_cases, or_left, or_right, and_parts, and_from}
use Rattle.std.proofs.lemmas.List.{map-append}
use Rattle.std.proofs.lemmas.List.Folds.{list_any-append}
use Rattle.pocket_types.proofs.PathLemmas.{fold-append, add_more, part_of, begun-all}
use Rattle.pocket_meaning.proofs.ChoiceLemmas.{last_step_is}
use Rattle.std.proofs.lemmas.List.{append-nil}
use Rattle.std.proofs.Common.{append_assoc, add-one}

-- the tests on prefixes tell whether two are the same
both_texts : (a b x y : List ℕ) → Decides (bytes_eq a b && bytes_eq x y) ((a ≡ b) × (x ≡ y))
both_texts a b x y = Decides-and (bytes_eq a b) (bytes_eq x y) (bytes_eq-Decides a b) (bytes_eq-Decides x y)

pub root_is : (a b : Root) → Decides (same_root a b) (a ≡ b)
root_is root.Home root.Home = (λ h. refl, λ h. refl)
root_is root.Home root.Auth = (λ h. cc, λ h. cc)
root_is root.Home root.Body = (λ h. cc, λ h. cc)
root_is root.Home (root.Look b y) = (λ h. cc, λ h. cc)
root_is root.Auth root.Home = (λ h. cc, λ h. cc)
root_is root.Auth root.Auth = (λ h. refl, λ h. refl)
root_is root.Auth root.Body = (λ h. cc, λ h. cc)
root_is root.Auth (root.Look b y) = (λ h. cc, λ h. cc)
root_is root.Body root.Home = (λ h. cc, λ h. cc)
root_is root.Body root.Auth = (λ h. cc, λ h. cc)
root_is root.Body root.Body = (λ h. refl, λ h. refl)
root_is root.Body (root.Look b y) = (λ h. cc, λ h. cc)
root_is (root.Look a x) root.Home = (λ h. cc, λ h. cc)
root_is (root.Look a x) root.Auth = (λ h. cc, λ h. cc)
root_is (root.Look a x) root.Body = (λ h. cc, λ h. cc)
root_is (root.Look a x) (root.Look b y) = Decides-like (bytes_eq a b && bytes_eq x y) (λ h. let e = h.0 in let g = h.1 in cc) (λ h. (cc, cc)) (both_texts a b x y)

pub step_is : (a b : Step) → Decides (same_step a b) (a ≡ b)
step_is (step.Forward a) (step.Forward b) = Decides-like (bytes_eq a b) (λ h. cc) (λ h. cc) (bytes_eq-Decides a b)
step_is (step.Forward a) (step.Back b g) = (λ h. cc, λ h. cc)
step_is (step.Forward a) (step.Item b) = (λ h. cc, λ h. cc)
step_is (step.Back a f) (step.Forward b) = (λ h. cc, λ h. cc)
step_is (step.Back a f) (step.Back b g) = Decides-like (bytes_eq a b && bytes_eq f g) (λ h. let e = h.0 in let g = h.1 in cc) (λ h. (cc, cc)) (both_texts a b f g)
step_is (step.Back a f) (step.Item b) = (λ h. cc, λ h. cc)
step_is (step.Item a) (step.Forward b) = (λ h. cc, λ h. cc)
step_is (step.Item a) (step.Back b g) = (λ h. cc, λ h. cc)
step_is (step.Item a) (step.Item b) = Decides-like (bytes_eq a b) (λ h. cc) (λ h. cc) (bytes_eq-Decides a b)

pub prefix_is : (p q : Prefix) → Decides (same_prefix p q) (p ≡ q)
prefix_is p q =
    let steps : Decides (pointwise same_step p.steps q.steps) (p.steps ≡ q.steps) = slice_eq-Decides step_is p.steps q.steps _ refl in
    let made : Root → List Step → Prefix = λ r l. record { root = r; steps = l } in
    Decides-like (same_root p.root q.root && pointwise same_step p.steps q.steps) (λ h. ap (λ r. made r p.steps) h.0 ∙ ap (made q.root) h.1) (λ h. (ap (λ (x : Prefix). x.root) h, ap (λ (x : Prefix). x.steps) h)) (Decides-and _ _ (root_is p.root q.root) steps)

pub same_self : (p : Prefix) → same_prefix p p ≡ true
same_self p = (prefix_is p p).1 refl

-- whether a choice has a prefix
abbrev pub has : Choice → Prefix → Bool
has c p = list_any (λ x. same_prefix x.0 p) c

pub find_left : {X : Type 0} (p : X → Bool) (xs ys : List X) → list_any p xs ≡ true → find p (xs ++ ys) ≡ find p xs
find_left p [] ys h = cc
find_left p (x ∷ xs) ys h =
    let by : (b : Bool) → (b || list_any p xs) ≡ true → cond b (Some x) (find p (xs ++ ys)) ≡ cond b (Some x) (find p xs) = λ b. elim b as (λ b. (b || list_any p xs) ≡ true → cond b (Some x) (find p (xs ++ ys)) ≡ cond b (Some x) (find p xs)) [ true ↦ λ g. refl | false ↦ λ g. find_left p xs ys g ] in
    by (p x) h

pub find_right : {X : Type 0} (p : X → Bool) (xs ys : List X) → list_any p xs ≡ false → find p (xs ++ ys) ≡ find p ys
find_right p [] ys h = refl
find_right p (x ∷ xs) ys h =
    let by : (b : Bool) → (b || list_any p xs) ≡ false → cond b (Some x) (find p (xs ++ ys)) ≡ find p ys = λ b. elim b as (λ b. (b || list_any p xs) ≡ false → cond b (Some x) (find p (xs ++ ys)) ≡ find p ys) [ true ↦ λ g. cc | false ↦ λ g. find_right p xs ys g ] in
    by (p x) h

pub chosen_kept : (c e : Choice) (p : Prefix) → has c p ≡ true → chosen (c ++ e) p ≡ chosen c p
chosen_kept c e p h = ap (λ o. option_map_or (λ x. x.1) o member.Nobody) (find_left (λ x. same_prefix x.0 p) c e h)

pub chosen_new : (c : Choice) (p : Prefix) (m : Member) → has c p ≡ false → chosen (c ++ (p, m) ∷ []) p ≡ m
chosen_new c p m h =
    ap (λ o. option_map_or (λ x. x.1) o member.Nobody) (find_right (λ x. same_prefix x.0 p) c ((p, m) ∷ []) h) ∙ ap (λ b. option_map_or (λ (x : Prefix × Member). x.1) (cond b (Some (p, m)) None) member.Nobody) (same_self p)

pub has_kept : (c e : Choice) (p : Prefix) → has c p ≡ true → has (c ++ e) p ≡ true
has_kept c e p h = grind (arith, common_steps, nat_tests)

-- membership
pub in_append : {X : Type 0} (x : X) (xs ys : List X) → IsIn x (xs ++ ys) → IsIn x xs ⊎ IsIn x ys
in_append x [] ys h = inr h
in_append x (z ∷ xs) ys h =
    elim h [ inl e ↦ inl (inl e) | inr g ↦ elim (in_append x xs ys g) [ inl a ↦ inl (inr a) | inr b ↦ inr b ] ]

pub in_left : {X : Type 0} (x : X) (xs ys : List X) → IsIn x xs → IsIn x (xs ++ ys)
in_left x [] ys h = absurd h
in_left x (z ∷ xs) ys h = elim h [ inl e ↦ inl e | inr g ↦ inr (in_left x xs ys g) ]

pub in_right : {X : Type 0} (x : X) (xs ys : List X) → IsIn x ys → IsIn x (xs ++ ys)
in_right x [] ys h = h
in_right x (z ∷ xs) ys h = inr (in_right x xs ys h)

pub in_flat_map : {X Y : Type 0} (f : X → List Y) (xs : List X) (y : Y) → IsIn y (flat_map f xs) → (x : X) × IsIn x xs × IsIn y (f x)
in_flat_map f [] y h = absurd h
in_flat_map f (x ∷ xs) y h =
    elim (in_append y (f x) (flat_map f xs) h) [ inl a ↦ (x, inl refl, a) | inr b ↦ (let r = in_flat_map f xs y b in (r.0, inr r.1, r.2)) ]

pub flat_map_in : {X Y : Type 0} (f : X → List Y) (xs : List X) (x : X) (y : Y) → IsIn x xs → IsIn y (f x) → IsIn y (flat_map f xs)
flat_map_in f [] x y h g = absurd h
flat_map_in f (z ∷ xs) x y h g =
    elim h [ inl e ↦ in_left y (f z) (flat_map f xs) (subst (λ w. IsIn y (f w)) e g) | inr k ↦ in_right y (f z) (flat_map f xs) (flat_map_in f xs x y k g) ]

pub any_in : {X : Type 0} (p : X → Bool) (xs : List X) → list_any p xs ≡ true → (x : X) × IsIn x xs × (p x ≡ true)
any_in p [] h = cc
any_in p (x ∷ xs) h =
    elim (or_cases (p x) (list_any p xs) h) [ inl a ↦ (x, inl refl, a) | inr b ↦ (let r = any_in p xs b in (r.0, inr r.1, r.2)) ]

pub in_any : {X : Type 0} (p : X → Bool) (xs : List X) (x : X) → IsIn x xs → p x ≡ true → list_any p xs ≡ true
in_any p [] x h g = absurd h
in_any p (z ∷ xs) x h g =
    elim h [ inl e ↦ or_left (p z) (list_any p xs) (subst (λ w. p w ≡ true) e g) | inr k ↦ or_right (p z) (list_any p xs) (in_any p xs x k g) ]

-- a prefix with one more step has that step last, and the prefix as its parent
pub parent_then : (p : Prefix) (t : Step) → parent (then_step p t) ≡ p
parent_then p t =
    let made : List Step → Prefix = λ l. record { root = p.root; steps = l } in
    let same : take (length (p.steps ++ t ∷ []) - 1) (p.steps ++ t ∷ []) ≡ p.steps = grind (arith, common_steps) in
    ap made same

pub last_then : (p : Prefix) (t : Step) → last_step (then_step p t) ≡ Some t
last_then p t =
    let some : 1 ≤ length (p.steps ++ t ∷ []) = grind (arith, common_steps) in
    let is : t ≡ get_or (p.steps ++ t ∷ []) (length (p.steps ++ t ∷ []) - 1) t = grind (arith, common_steps) in
    last_step_is (then_step p t) t some is

-- a prefix is bare, or its parent with one more step
pub steps_end : (l : List Step) → (l ≡ []) ⊎ ((t : Step) × (l ≡ take (length l - 1) l ++ t ∷ []))
steps_end [] = inl refl
steps_end (x ∷ l) =
    let t = get_or (x ∷ l) (length (x ∷ l) - 1) x in
    inr (t, grind (arith, common_steps))

pub prefix_end : (p : Prefix) → (p ≡ bare p.root) ⊎ ((t : Step) × (p ≡ then_step (parent p) t))
prefix_end p =
    let made : List Step → Prefix = λ l. record { root = p.root; steps = l } in
    elim (steps_end p.steps) [ inl e ↦ inl (ap made e) | inr r ↦ inr (r.0, ap made r.1) ]

-- a root, or a prefix whose parent is there
abbrev pub Rooted : (Prefix → Bool) → Prefix → Type 0
Rooted there p = (last_step p ≡ None) ⊎ (there (parent p) ≡ true)

-- each prefix of a choice has a member of its list as the choice has it
abbrev pub Fine : Sight → Choice → Type 0
Fine s d = (q : Prefix) → has d q ≡ true → Rooted (has d) q × IsIn (chosen d q) (or_nobody (related s d q))

pub related_kept : (s : Sight) (d e : Choice) (q : Prefix) → Rooted (has d) q → related s (d ++ e) q ≡ related s d q
related_kept s d e q r =
    elim r [ inl n ↦ rw n refl | inr h ↦ ap (λ m. seen_from s q.root m (last_step q)) (chosen_kept d e (parent q) h) ]

pub rooted_kept : (d e : Choice) (q : Prefix) → Rooted (has d) q → Rooted (has (d ++ e)) q
rooted_kept d e q r = elim r [ inl n ↦ inl n | inr h ↦ inr (has_kept d e (parent q) h) ]

pub true_or_false : (b : Bool) → (b ≡ true) ⊎ (b ≡ false)
true_or_false b = elim b as (λ b. (b ≡ true) ⊎ (b ≡ false)) [ true ↦ inl refl | false ↦ inr refl ]

only_new : (d : Choice) (p : Prefix) (m : Member) (q : Prefix) → has (d ++ (p, m) ∷ []) q ≡ true → has d q ≡ false → p ≡ q
only_new d p m q h none =
    let split = list_any-append (λ (x : Prefix × Member). same_prefix x.0 q) d ((p, m) ∷ []) in
    let last : same_prefix p q ≡ true = elim (or_cases (has d q) (same_prefix p q || false) (sym split ∙ h)) [ inl a ↦ cc | inr b ↦ elim (or_cases (same_prefix p q) false b) [ inl k ↦ k | inr k ↦ cc ] ] in
    (prefix_is p q).0 last

pub fine_more : (s : Sight) (d : Choice) (p : Prefix) (m : Member) → Fine s d → Rooted (has d) p → IsIn m (or_nobody (related s d p)) → Fine s (d ++ (p, m) ∷ [])
fine_more s d p m fine r picked q h =
    let e : Choice = (p, m) ∷ [] in
    elim (true_or_false (has d q)) [
      | inl old ↦ (let f = fine q old in (rooted_kept d e q f.0, subst (λ x. IsIn x (or_nobody (related s (d ++ e) q))) (sym (chosen_kept d e q old)) (subst (λ l. IsIn (chosen d q) (or_nobody l)) (sym (related_kept s d e q f.0)) f.1)))
      | inr new ↦
          (let is : p ≡ q = only_new d p m q h new in
          let P : Prefix → Type 0 = λ z. has d z ≡ false → Rooted (has (d ++ e)) z × IsIn (chosen (d ++ e) z) (or_nobody (related s (d ++ e) z)) in
          subst P is (λ fresh. (rooted_kept d e p r, subst (λ x. IsIn x (or_nobody (related s (d ++ e) p))) (sym (chosen_new d p m fresh)) (subst (λ l. IsIn m (or_nobody l)) (sym (related_kept s d e p r)) picked))) new)
    ]

pub has_firsts : (d : Choice) (q : Prefix) → has d q ≡ among (chosen_prefixes d) q
has_firsts [] q = refl
has_firsts (x ∷ d) q = ap (λ b. same_prefix x.0 q || b) (has_firsts d q)

rooted_firsts : (d : Choice) (p : Prefix) → Rooted (among (chosen_prefixes d)) p → Rooted (has d) p
rooted_firsts d p r = elim r [ inl n ↦ inl n | inr h ↦ inr (has_firsts d (parent p) ∙ h) ]

-- each choice of the list is fine, and has all the prefixes
pub choices_fine : (s : Sight) (ps : List Prefix) (d : Choice) → Fine s d → AreParentsFirst (chosen_prefixes d) ps → (e : Choice) → IsIn e (choices_from s ps d) → Fine s e × ((q : Prefix) → among (chosen_prefixes d ++ ps) q ≡ true → has e q ≡ true)
choices_fine s [] d fine ready e h =
    let is : e ≡ d = elim h [ inl k ↦ k | inr k ↦ absurd k ] in
    let P : Choice → Type 0 = λ x. Fine s x × ((q : Prefix) → among (chosen_prefixes d ++ []) q ≡ true → has x q ≡ true) in
    subst P (sym is) (fine, λ q g. has_firsts d q ∙ ap (λ l. among l q) (sym (append-nil (chosen_prefixes d))) ∙ g)
choices_fine s (p ∷ ps) d fine ready e h =
    let f : Member → List Choice = λ m. choices_from s ps (d ++ (p, m) ∷ []) in
    let r = in_flat_map f (or_nobody (related s d p)) e h in
    let firsts_more : chosen_prefixes (d ++ (p, r.0) ∷ []) ≡ chosen_prefixes d ++ p ∷ [] = map-append (λ (x : Prefix × Member). x.0) d ((p, r.0) ∷ []) in
    let next = choices_fine s ps (d ++ (p, r.0) ∷ []) (fine_more s d p r.0 fine (rooted_firsts d p ready.0) r.1) (subst (λ l. AreParentsFirst l ps) (sym firsts_more) ready.1) e r.2 in
    (next.0, λ q g. next.1 q (ap (λ l. among (l ++ ps) q) firsts_more ∙ ap (λ l. among l q) (append_assoc (chosen_prefixes d) (p ∷ []) ps) ∙ g))

-- the choice of all prefixes that agrees with a fine one
abbrev pub first_of_list : List Member → Member
first_of_list [] = member.Nobody
first_of_list (m ∷ ms) = m

pub first_in : (ms : List Member) → IsIn (first_of_list ms) (or_nobody ms)
first_in [] = inl refl
first_in (m ∷ ms) = inl refl

abbrev pub pick_at : Choice → Prefix → List Member → Member
pick_at d p ms = cond (has d p) (chosen d p) (first_of_list ms)

abbrev pub walk : Sight → Choice → Prefix → Member → List Step → Member
walk s d p m [] = m
walk s d p m (t ∷ ts) = walk s d (then_step p t) (pick_at d (then_step p t) (s.steps t m)) ts

abbrev pub total : Sight → Choice → Prefix → Member
total s d p = walk s d (bare p.root) (pick_at d (bare p.root) (s.roots p.root)) p.steps

abbrev pub longer_by : Prefix → List Step → Prefix
longer_by p ts = record { root = p.root; steps = p.steps ++ ts }

pub walk_then : (s : Sight) (d : Choice) (p : Prefix) (m : Member) (ts : List Step) (t : Step) → walk s d p m (ts ++ t ∷ []) ≡ pick_at d (longer_by p (ts ++ t ∷ [])) (s.steps t (walk s d p m ts))
walk_then s d p m [] t = refl
walk_then s d p m (u ∷ ts) t =
    let made : List Step → Prefix = λ l. record { root = p.root; steps = l } in
    walk_then s d (then_step p u) (pick_at d (then_step p u) (s.steps u m)) ts t ∙ ap (λ q. pick_at d q (s.steps t (walk s d p m (u ∷ ts)))) (ap made (append_assoc p.steps (u ∷ []) (ts ++ t ∷ [])))

pub total_then : (s : Sight) (d : Choice) (p : Prefix) (t : Step) → total s d (then_step p t) ≡ pick_at d (then_step p t) (s.steps t (total s d p))
total_then s d p t = walk_then s d (bare p.root) (pick_at d (bare p.root) (s.roots p.root)) p.steps t

pick_has : (d : Choice) (p : Prefix) (ms : List Member) → has d p ≡ true → pick_at d p ms ≡ chosen d p
pick_has d p ms h = rw h refl

pick_new : (d : Choice) (p : Prefix) (ms : List Member) → has d p ≡ false → pick_at d p ms ≡ first_of_list ms
pick_new d p ms h = rw h refl

pub total_agrees : (s : Sight) (d : Choice) (p : Prefix) → has d p ≡ true → total s d p ≡ chosen d p
total_agrees s d p h =
    let P : Prefix → Type 0 = λ q. has d q ≡ true → total s d q ≡ chosen d q in
    elim (prefix_end p) [
      | inl e ↦ subst P (sym e) (λ g. pick_has d (bare p.root) (s.roots p.root) g) h
      | inr r ↦ subst P (sym r.1) (λ g. total_then s d (parent p) r.0 ∙ pick_has d (then_step (parent p) r.0) (s.steps r.0 (total s d (parent p))) g) h
    ]

pub total_is_choice : (s : Sight) (d : Choice) → Fine s d → IsChoice s (total s d)
total_is_choice s d fine = record {
  root = λ r. elim (true_or_false (has d (bare r))) [
    | inl h ↦ subst (λ m. IsIn m (or_nobody (s.roots r))) (sym (pick_has d (bare r) (s.roots r) h)) (fine (bare r) h).1
    | inr h ↦ subst (λ m. IsIn m (or_nobody (s.roots r))) (sym (pick_new d (bare r) (s.roots r) h)) (first_in (s.roots r))
  ];
  step = λ p t.
      (let l = s.steps t (total s d p) in
      subst (λ m. IsIn m (or_nobody l)) (sym (total_then s d p t))
      (elim (true_or_false (has d (then_step p t))) [
        | inl h ↦
            (let f = fine (then_step p t) h in
            let there : has d p ≡ true = elim f.0 [ inl n ↦ (let e = last_then p t in cc) | inr g ↦ ap (has d) (sym (parent_then p t)) ∙ g ] in
            let from : related s d (then_step p t) ≡ l = ap (seen_from s p.root (chosen d (parent (then_step p t)))) (last_then p t) ∙ ap (s.steps t) (ap (chosen d) (parent_then p t) ∙ sym (total_agrees s d p there)) in
            subst (λ m. IsIn m (or_nobody l)) (sym (pick_has d (then_step p t) l h)) (subst (λ k. IsIn (chosen d (then_step p t)) (or_nobody k)) from f.1))
        | inr h ↦ subst (λ m. IsIn m (or_nobody l)) (sym (pick_new d (then_step p t) l h)) (first_in l)
      ]));
}

-- a choice of all prefixes, cut to some
abbrev pub cut : (Prefix → Member) → List Prefix → Choice
cut c = map (λ p. (p, c p))

pub chosen_cut : (c : Prefix → Member) (ps : List Prefix) (q : Prefix) → among ps q ≡ true → chosen (cut c ps) q ≡ c q
chosen_cut c [] q h = cc
chosen_cut c (p ∷ ps) q h =
    let found : Bool → Member = λ b. option_map_or (λ (x : Prefix × Member). x.1) (cond b (Some (p, c p)) (find (λ x. same_prefix x.0 q) (cut c ps))) member.Nobody in
    elim (true_or_false (same_prefix p q)) [
      | inl e ↦ ap found e ∙ ap c ((prefix_is p q).0 e)
      | inr n ↦ ap found n ∙ chosen_cut c ps q (elim (or_cases (same_prefix p q) (among ps q) h) [ inl k ↦ cc | inr k ↦ k ])
    ]

related_cut : (s : Sight) (c : Prefix → Member) → IsChoice s c → (ps : List Prefix) (p : Prefix) → Rooted (among ps) p → IsIn (c p) (or_nobody (related s (cut c ps) p))
related_cut s c is ps p r =
    let P : Prefix → Type 0 = λ q. Rooted (among ps) q → IsIn (c q) (or_nobody (related s (cut c ps) q)) in
    elim (prefix_end p) [
      | inl e ↦ subst P (sym e) (λ g. is.root p.root) r
      | inr k ↦ subst P (sym k.1) (λ g.
          (let q = parent p in
          let t = k.0 in
          let there : among ps q ≡ true = elim g [ inl n ↦ (let e = last_then q t in cc) | inr h ↦ ap (among ps) (sym (parent_then q t)) ∙ h ] in
          let from : related s (cut c ps) (then_step q t) ≡ s.steps t (c q) = ap (seen_from s q.root (chosen (cut c ps) (parent (then_step q t)))) (last_then q t) ∙ ap (s.steps t) (ap (chosen (cut c ps)) (parent_then q t) ∙ chosen_cut c ps q there) in
          subst (λ l. IsIn (c (then_step q t)) (or_nobody l)) (sym from) (is.step q t))) r
    ]

pub cut_in : (s : Sight) (c : Prefix → Member) → IsChoice s c → (done ps : List Prefix) → AreParentsFirst done ps → IsIn (cut c (done ++ ps)) (choices_from s ps (cut c done))
cut_in s c is done [] ready = inl (ap (cut c) (append-nil done))
cut_in s c is done (p ∷ ps) ready =
    let more : cut c (done ++ p ∷ []) ≡ cut c done ++ (p, c p) ∷ [] = map-append (λ (q : Prefix). (q, c q)) done (p ∷ []) in
    let next = cut_in s c is (done ++ p ∷ []) ps ready.1 in
    let f : Member → List Choice = λ m. choices_from s ps (cut c done ++ (p, m) ∷ []) in
    flat_map_in f (or_nobody (related s (cut c done) p)) (c p) (cut c (done ++ p ∷ ps)) (related_cut s c is done p ready.0)
    (subst (λ d. IsIn (cut c (done ++ p ∷ ps)) (choices_from s ps d)) more (subst (λ l. IsIn (cut c l) (choices_from s ps (cut c (done ++ p ∷ [])))) (append_assoc done (p ∷ []) ps) next))

-- the list of prefixes is ready, and has them all
pub ready_more : (done ps : List Prefix) (p : Prefix) → AreParentsFirst done ps → Rooted (among (done ++ ps)) p → AreParentsFirst done (ps ++ p ∷ [])
ready_more done [] p ready r = (subst (λ l. Rooted (among l) p) (append-nil done) r, tt)
ready_more done (q ∷ ps) p ready r = (ready.0, ready_more (done ++ q ∷ []) ps p ready.1 (subst (λ l. Rooted (among l) p) (sym (append_assoc done (q ∷ []) ps)) r))

pub among_one : (p : Prefix) → among (p ∷ []) p ≡ true
among_one p = or_left (same_prefix p p) false (same_self p)

abbrev put : Bool → List Prefix → Prefix → List Prefix
put b ps p = cond b ps (ps ++ p ∷ [])

pub ready_with : (ps : List Prefix) (p : Prefix) → AreParentsFirst [] ps → Rooted (among ps) p → AreParentsFirst [] (with_prefix ps p)
ready_with ps p ready r =
    elim (true_or_false (list_any (same_prefix p) ps)) [
      | inl h ↦ subst (λ b. AreParentsFirst [] (put b ps p)) (sym h) ready
      | inr h ↦ subst (λ b. AreParentsFirst [] (put b ps p)) (sym h) (ready_more [] ps p ready r)
    ]

pub among_kept : (ps : List Prefix) (p q : Prefix) → among ps q ≡ true → among (with_prefix ps p) q ≡ true
among_kept ps p q g =
    elim (true_or_false (list_any (same_prefix p) ps)) [
      | inl h ↦ subst (λ b. among (put b ps p) q ≡ true) (sym h) g
      | inr h ↦ subst (λ b. among (put b ps p) q ≡ true) (sym h) (list_any-append (λ x. same_prefix x q) ps (p ∷ []) ∙ or_left (among ps q) (among (p ∷ []) q) g)
    ]

pub among_put : (ps : List Prefix) (p : Prefix) → among (with_prefix ps p) p ≡ true
among_put ps p =
    elim (true_or_false (list_any (same_prefix p) ps)) [
      | inl h ↦ (let r = any_in (same_prefix p) ps h in subst (λ b. among (put b ps p) p ≡ true) (sym h) (in_any (λ x. same_prefix x p) ps r.0 r.1 ((prefix_is r.0 p).1 (sym ((prefix_is p r.0).0 r.2)))))
      | inr h ↦ subst (λ b. among (put b ps p) p ≡ true) (sym h) (list_any-append (λ x. same_prefix x p) ps (p ∷ []) ∙ or_right (among ps p) (among (p ∷ []) p) (among_one p))
    ]

pub fold_kept : (l ps : List Prefix) (q : Prefix) → among ps q ≡ true → among (fold with_prefix ps l) q ≡ true
fold_kept [] ps q g = g
fold_kept (p ∷ l) ps q g = fold_kept l (with_prefix ps p) q (among_kept ps p q g)

parent_part : (p : Prefix) (k : ℕ) → suc k ≤ length p.steps → parent (part_of p (suc k)) ≡ part_of p k
parent_part p k h =
    let made : List Step → Prefix = λ l. record { root = p.root; steps = l } in
    let same : take (length (take (suc k) p.steps) - 1) (take (suc k) p.steps) ≡ take k p.steps = grind (arith, common_steps) in
    ap made same

part_all : (p : Prefix) → part_of p (length p.steps) ≡ p
part_all p =
    let made : List Step → Prefix = λ l. record { root = p.root; steps = l } in
    let same : take (length p.steps) p.steps ≡ p.steps = grind (arith, common_steps) in
    ap made same

pub begun_ready : (ps : List Prefix) (p : Prefix) → AreParentsFirst [] ps → (k : ℕ) → k ≤ length p.steps → AreParentsFirst [] (fold with_prefix ps (take (suc k) (begun p))) × (among (fold with_prefix ps (take (suc k) (begun p))) (part_of p k) ≡ true)
begun_ready ps p ready zero h =
    let Q : List Prefix → Type 0 = λ l. AreParentsFirst [] l × (among l (part_of p 0) ≡ true) in
    subst Q (sym (add_more ps p 0 h)) (ready_with ps (part_of p 0) ready (inl refl), among_put ps (part_of p 0))
begun_ready ps p ready (suc k) h =
    let before = begun_ready ps p ready k (omega arith) in
    let l : List Prefix = fold with_prefix ps (take (suc k) (begun p)) in
    let Q : List Prefix → Type 0 = λ l. AreParentsFirst [] l × (among l (part_of p (suc k)) ≡ true) in
    subst Q (sym (add_more ps p (suc k) h)) (ready_with l (part_of p (suc k)) before.0 (inr (ap (among l) (parent_part p k h) ∙ before.1)), among_put l (part_of p (suc k)))

pub begun_all_ready : (ps : List Prefix) (p : Prefix) → AreParentsFirst [] ps → AreParentsFirst [] (fold with_prefix ps (begun p)) × (among (fold with_prefix ps (begun p)) p ≡ true)
begun_all_ready ps p ready =
    let r = begun_ready ps p ready (length p.steps) (omega arith) in
    let all : take (suc (length p.steps)) (begun p) ≡ begun p = ap (λ n. take n (begun p)) (sym (add-one (length p.steps))) ∙ begun-all p in
    let Q : List Prefix → Type 0 = λ l. AreParentsFirst [] (fold with_prefix ps l) × (among (fold with_prefix ps l) p ≡ true) in
    subst Q all (r.0, ap (among (fold with_prefix ps (take (suc (length p.steps)) (begun p)))) (sym (part_all p)) ∙ r.1)

pub parents_ready : (qs ps : List Prefix) → AreParentsFirst [] ps → AreParentsFirst [] (fold with_prefix ps (flat_map begun qs)) × ((q : Prefix) → IsIn q qs → among (fold with_prefix ps (flat_map begun qs)) q ≡ true)
parents_ready [] ps ready = (ready, λ q h. absurd h)
parents_ready (p ∷ qs) ps ready =
    let first = begun_all_ready ps p ready in
    let next : List Prefix = fold with_prefix ps (begun p) in
    let rest = parents_ready qs next first.0 in
    let same : fold with_prefix ps (begun p ++ flat_map begun qs) ≡ fold with_prefix next (flat_map begun qs) = fold-append with_prefix ps (begun p) (flat_map begun qs) in
    let Q : List Prefix → Type 0 = λ l. AreParentsFirst [] l × ((q : Prefix) → IsIn q (p ∷ qs) → among l q ≡ true) in
    subst Q (sym same) (rest.0, λ q h. elim h [ inl e ↦ ap (among (fold with_prefix next (flat_map begun qs))) e ∙ fold_kept (flat_map begun qs) next p first.1 | inr k ↦ rest.1 q k ])

-- values and truth depend on the chosen members of the prefixes alone
pub value_same : (s : Sight) (c d : Prefix → Member) (l : Leaf) → ((p : Prefix) → IsIn p (prefixes_of l) → c p ≡ d p) → value_of s c l ≡ value_of s d l
value_same s c d (leaf.Fixed v) h = refl
value_same s c d (leaf.Of p f m) h = ap (λ x. s.values x f m) (h p (inl refl))
value_same s c d (leaf.ItemOf p) h = ap item_value (h p (inl refl))
value_same s c d leaf.Context h = refl
value_same s c d leaf.Method h = refl
value_same s c d (leaf.Header t m) h = refl
value_same s c d (leaf.Query t m) h = refl
value_same s c d (leaf.Body f m) h = refl
value_same s c d (leaf.Macro which) h = refl

pub test_same : (s : Sight) (c d : Prefix → Member) (l : Leaf) (o : Op) (r : Leaf) → ((p : Prefix) → IsIn p (prefixes_of l ++ prefixes_of r) → c p ≡ d p) → test_under s c l o r ≡ test_under s d l o r
test_same s c d l o r h =
    ap (λ v. compare_values o v (value_of s c r)) (value_same s c d l (λ p k. h p (in_left p (prefixes_of l) (prefixes_of r) k))) ∙ ap (compare_values o (value_of s d l)) (value_same s c d r (λ p k. h p (in_right p (prefixes_of l) (prefixes_of r) k)))

pub truth_same : (s : Sight) (c d : Prefix → Member) (f : Resolved) → ((p : Prefix) → IsIn p (any_prefixes f) → c p ≡ d p) → true_under s c f ≡ true_under s d f
truth_same s c d =
    resolved_induction (λ f. ((p : Prefix) → IsIn p (any_prefixes f) → c p ≡ d p) → true_under s c f ≡ true_under s d f)
    (λ l a o r. elim a as (λ a. ((p : Prefix) → IsIn p (any_prefixes (made.Test l a o r)) → c p ≡ d p) → true_under s c (made.Test l a o r) ≡ true_under s d (made.Test l a o r)) [
      | true ↦ λ h. true-any s c l o r ∙ test_same s c d l o r (λ p k. h p (subst (IsIn p) (sym (prefixes-any l o r)) k)) ∙ sym (true-any s d l o r)
      | false ↦ λ h. true-plain s c l o r ∙ sym (true-plain s d l o r)
    ])
    (λ a b x y h. true-and s c a b ∙ ap (λ v. v && true_under s c b) (x (λ p k. h p (subst (IsIn p) (sym (prefixes-and a b)) (in_left p (any_prefixes a) (any_prefixes b) k)))) ∙ ap (λ v. true_under s d a && v) (y (λ p k. h p (subst (IsIn p) (sym (prefixes-and a b)) (in_right p (any_prefixes a) (any_prefixes b) k)))) ∙ sym (true-and s d a b))
    (λ a b x y h. true-or s c a b ∙ ap (λ v. v || true_under s c b) (x (λ p k. h p (subst (IsIn p) (sym (prefixes-or a b)) (in_left p (any_prefixes a) (any_prefixes b) k)))) ∙ ap (λ v. true_under s d a || v) (y (λ p k. h p (subst (IsIn p) (sym (prefixes-or a b)) (in_right p (any_prefixes a) (any_prefixes b) k)))) ∙ sym (true-or s d a b))

nothing_fine : (s : Sight) → Fine s []
nothing_fine s q h = cc

-- each choice of the list goes on from the one it began with
pub choices_extend : (s : Sight) (ps : List Prefix) (d e : Choice) → IsIn e (choices_from s ps d) → (x : Choice) × (e ≡ d ++ x)
choices_extend s [] d e h = elim h [ inl k ↦ ([], k ∙ sym (append-nil d)) | inr k ↦ absurd k ]
choices_extend s (p ∷ ps) d e h =
    let r = in_flat_map (λ m. choices_from s ps (d ++ (p, m) ∷ [])) (or_nobody (related s d p)) e h in
    let x = choices_extend s ps (d ++ (p, r.0) ∷ []) e r.2 in
    ((p, r.0) ∷ x.0, x.1 ∙ append_assoc d ((p, r.0) ∷ []) x.0)

-- a list with parents first, cut in two
first_parts : (before xs ys : List Prefix) → AreParentsFirst before (xs ++ ys) → AreParentsFirst before xs × AreParentsFirst (before ++ xs) ys
first_parts before [] ys first = (tt, subst (λ l. AreParentsFirst l ys) (sym (append-nil before)) first)
first_parts before (x ∷ xs) ys first =
    let r = first_parts (before ++ x ∷ []) xs ys first.1 in
    ((first.0, r.0), subst (λ l. AreParentsFirst l ys) (append_assoc before (x ∷ []) xs) r.1)

pub among_left : (ps qs : List Prefix) (q : Prefix) → among ps q ≡ true → among (ps ++ qs) q ≡ true
among_left ps qs q h = list_any-append (λ x. same_prefix x q) ps qs ∙ or_left (among ps q) (among qs q) h

-- the parent of each of them stands in it
parent_in : (before ps : List Prefix) → AreParentsFirst before ps → (q : Prefix) → among ps q ≡ true → Rooted (among (before ++ ps)) q
parent_in before [] first q h = cc
parent_in before (p ∷ ps) first q h =
    elim (or_cases (same_prefix p q) (among ps q) h) [
      | inl e ↦ subst (Rooted (among (before ++ p ∷ ps))) ((prefix_is p q).0 e) (elim first.0 [ inl n ↦ inl n | inr k ↦ inr (among_left before (p ∷ ps) (parent p) k) ])
      | inr k ↦ subst (λ l. Rooted (among l) q) (append_assoc before (p ∷ []) ps) (parent_in (before ++ p ∷ []) ps first.1 q k)
    ]

-- what agrees with a choice of all prefixes is that choice, cut to some
pub agrees_cut : (c : Prefix → Member) (d : Choice) → Agrees c d → d ≡ cut c (chosen_prefixes d)
agrees_cut c [] a = refl
agrees_cut c (x ∷ d) a =
    let made : Member → Prefix × Member = λ m. (x.0, m) in
    ap (λ z. z ∷ d) (ap made (sym a.0)) ∙ ap (λ l. (x.0, c x.0) ∷ l) (agrees_cut c d a.1)

agrees_on : (c e : Prefix → Member) (d : Choice) → Agrees e d → ((q : Prefix) → among (chosen_prefixes d) q ≡ true → c q ≡ e q) → Agrees c d
agrees_on c e [] a h = tt
agrees_on c e (x ∷ d) a h =
    (h x.0 (or_left (same_prefix x.0 x.0) (among (chosen_prefixes d) x.0) (same_self x.0)) ∙ a.0, agrees_on c e d a.1 (λ q k. h q (or_right (same_prefix x.0 q) (among (chosen_prefixes d) q) k)))

has_cut : (c : Prefix → Member) (ps : List Prefix) (q : Prefix) → has (cut c ps) q ≡ among ps q
has_cut c [] q = refl
has_cut c (p ∷ ps) q = ap (λ b. same_prefix p q || b) (has_cut c ps q)

cut_fine : (s : Sight) (c : Prefix → Member) → IsChoice s c → (ps : List Prefix) → AreParentsFirst [] ps → Fine s (cut c ps)
cut_fine s c is ps first q h =
    let stands : among ps q ≡ true = sym (has_cut c ps q) ∙ h in
    let r = parent_in [] ps first q stands in
    (elim r [ inl n ↦ inl n | inr k ↦ inr (has_cut c ps (parent q) ∙ k) ], subst (λ m. IsIn m (or_nobody (related s (cut c ps) q))) (sym (chosen_cut c ps q stands)) (related_cut s c is ps q r))

-- each choice that goes on from a start is, on its prefixes, a choice of all prefixes that agrees with the start
pub choice_from_list :
    (s : Sight) (d : Choice) (ps : List Prefix) → AreParentsFirst [] (chosen_prefixes d ++ ps) → IsStart s d → (e : Choice) → IsIn e (choices_from s ps d)
    → (c : Prefix → Member) × IsChoice s c × Agrees c d × ((q : Prefix) → among (chosen_prefixes d ++ ps) q ≡ true → c q ≡ chosen e q)
choice_from_list s d ps first start e h =
    let parts = first_parts [] (chosen_prefixes d) ps first in
    let is : d ≡ cut start.0 (chosen_prefixes d) = agrees_cut start.0 d start.2 in
    let f = choices_fine s ps d (subst (Fine s) (sym is) (cut_fine s start.0 start.1 (chosen_prefixes d) parts.0)) parts.1 e h in
    let x = choices_extend s ps d e h in
    let kept : (q : Prefix) → among (chosen_prefixes d) q ≡ true → total s e q ≡ start.0 q = λ q k. total_agrees s e q (f.1 q (among_left (chosen_prefixes d) ps q k)) ∙ ap (λ c. chosen c q) x.1 ∙ chosen_kept d x.0 q (has_firsts d q ∙ k) ∙ ap (λ c. chosen c q) is ∙ chosen_cut start.0 (chosen_prefixes d) q k in
    (total s e, total_is_choice s e f.0, agrees_on (total s e) start.0 d start.2 kept, λ q k. total_agrees s e q (f.1 q k))

-- each choice of all prefixes that agrees with the start is, on these prefixes, one that goes on from it
pub choice_in_list :
    (s : Sight) (d : Choice) (ps : List Prefix) → AreParentsFirst [] (chosen_prefixes d ++ ps) → (c : Prefix → Member) → IsChoice s c → Agrees c d
    → (e : Choice) × IsIn e (choices_from s ps d) × ((q : Prefix) → among (chosen_prefixes d ++ ps) q ≡ true → chosen e q ≡ c q)
choice_in_list s d ps first c is a =
    let all : List Prefix = chosen_prefixes d ++ ps in
    let ready = (first_parts [] (chosen_prefixes d) ps first).1 in
    (cut c all, subst (λ z. IsIn (cut c all) (choices_from s ps z)) (sym (agrees_cut c d a)) (cut_in s c is (chosen_prefixes d) ps ready), λ q k. chosen_cut c all q k)

module _ (s : Sight) (d : Choice) (ps : List Prefix) (f : Resolved) (first : AreParentsFirst [] (chosen_prefixes d ++ ps)) (all : HasAll (chosen_prefixes d ++ ps) (any_prefixes f)) where
  pub some_from : IsStart s d → list_any (λ e. true_under s (chosen e) f) (choices_from s ps d) ≡ true → (c : Prefix → Member) × IsChoice s c × Agrees c d × (true_under s c f ≡ true)
  some_from start h =
      let r = any_in (λ e. true_under s (chosen e) f) (choices_from s ps d) h in
      let c = choice_from_list s d ps first start r.0 r.1 in
      (c.0, c.1, c.2, truth_same s c.0 (chosen r.0) f (λ p k. c.3 p (all p k)) ∙ r.2)

  pub some_to : ((c : Prefix → Member) × IsChoice s c × Agrees c d × (true_under s c f ≡ true)) → list_any (λ e. true_under s (chosen e) f) (choices_from s ps d) ≡ true
  some_to (c, is, a, h) =
      let r = choice_in_list s d ps first c is a in
      in_any (λ e. true_under s (chosen e) f) (choices_from s ps d) r.0 r.1 (truth_same s (chosen r.0) c f (λ p k. r.2 p (all p k)) ∙ h)

all_in : {X : Type 0} (p : X → Bool) (xs : List X) → list_all p xs ≡ true → (x : X) → IsIn x xs → p x ≡ true
all_in p [] h x k = absurd k
all_in p (y ∷ xs) h x k =
    let b = and_parts (p y) (list_all p xs) h in
    elim k [ inl e ↦ subst (λ z. p z ≡ true) (sym e) b.0 | inr g ↦ all_in p xs b.1 x g ]

in_all : {X : Type 0} (p : X → Bool) (xs : List X) → ((x : X) → IsIn x xs → p x ≡ true) → list_all p xs ≡ true
in_all p [] h = refl
in_all p (y ∷ xs) h = and_from (p y) (list_all p xs) (h y (inl refl)) (in_all p xs (λ x k. h x (inr k)))

module _ (s : Sight) (d : Choice) (ps : List Prefix) (l : Leaf) (o : Op) (r : Leaf) (first : AreParentsFirst [] (chosen_prefixes d ++ ps)) (all : HasAll (chosen_prefixes d ++ ps) (prefixes_of l ++ prefixes_of r)) where
  pub each_from : list_all (λ e. test_under s (chosen e) l o r) (choices_from s ps d) ≡ true → (c : Prefix → Member) → IsChoice s c → Agrees c d → test_under s c l o r ≡ true
  each_from h c is a =
      let e = choice_in_list s d ps first c is a in
      sym (test_same s (chosen e.0) c l o r (λ p k. e.2 p (all p k))) ∙ all_in (λ e. test_under s (chosen e) l o r) (choices_from s ps d) h e.0 e.1

  pub each_to : IsStart s d → ((c : Prefix → Member) → IsChoice s c → Agrees c d → test_under s c l o r ≡ true) → list_all (λ e. test_under s (chosen e) l o r) (choices_from s ps d) ≡ true
  each_to start h =
      in_all (λ e. test_under s (chosen e) l o r) (choices_from s ps d) (λ e k. (let c = choice_from_list s d ps first start e k in sym (test_same s c.0 (chosen e) l o r (λ p g. c.3 p (all p g))) ∙ h c.0 c.1 c.2))

-- nothing is a start, and the list of prefixes with their parents is in order
pub nothing_start : (s : Sight) → IsStart s []
nothing_start s = (total s [], total_is_choice s [] (nothing_fine s), tt)

pub in_order : (ps : List Prefix) → AreParentsFirst [] (with_parents ps) × HasAll (with_parents ps) ps
in_order ps = parents_ready ps [] tt

-- the whole list and the relation agree
pub holds_from_list : (s : Sight) (f : Resolved) → true_in s f ≡ true → Holds s f
holds_from_list s f h =
    let o = in_order (any_prefixes f) in
    let c = some_from s [] (with_parents (any_prefixes f)) f o.0 o.1 (nothing_start s) h in
    (c.0, c.1, c.3)

pub list_from_holds : (s : Sight) (f : Resolved) → Holds s f → true_in s f ≡ true
list_from_holds s f h =
    let o = in_order (any_prefixes f) in
    some_to s [] (with_parents (any_prefixes f)) f o.0 o.1 (h.0, h.1, tt, h.2)

-- two any-match comparisons share the choice
pub shared : (s : Sight) (l m : Leaf) (o p : Op) (r q : Leaf) → true_in s (made.And (made.Test l true o r) (made.Test m true p q)) ≡ true → (c : Prefix → Member) × IsChoice s c × (test_under s c l o r ≡ true) × (test_under s c m p q ≡ true)
shared s l m o p r q h =
    let t = holds_from_list s (made.And (made.Test l true o r) (made.Test m true p q)) h in
    let both = and_parts (true_under s t.0 (made.Test l true o r)) (true_under s t.0 (made.Test m true p q)) (sym (true-and s t.0 (made.Test l true o r) (made.Test m true p q)) ∙ t.2) in
    (t.0, t.1, sym (true-any s t.0 l o r) ∙ both.0, sym (true-any s t.0 m p q) ∙ both.1)

pub from_shared : (s : Sight) (l m : Leaf) (o p : Op) (r q : Leaf) → ((c : Prefix → Member) × IsChoice s c × (test_under s c l o r ≡ true) × (test_under s c m p q ≡ true)) → true_in s (made.And (made.Test l true o r) (made.Test m true p q)) ≡ true
from_shared s l m o p r q (c, is, a, b) =
    list_from_holds s (made.And (made.Test l true o r) (made.Test m true p q)) (c, is, true-and s c (made.Test l true o r) (made.Test m true p q) ∙ and_from _ _ (true-any s c l o r ∙ a) (true-any s c m p q ∙ b))

-- a plain comparison holds under every choice
pub always_from : (s : Sight) (l : Leaf) (o : Op) (r : Leaf) → test_always s l o r ≡ true → (c : Prefix → Member) → IsChoice s c → test_under s c l o r ≡ true
always_from s l o r h c is =
    let order = in_order (prefixes_of l ++ prefixes_of r) in
    each_from s [] (with_parents (prefixes_of l ++ prefixes_of r)) l o r order.0 order.1 h c is tt

pub always_to : (s : Sight) (l : Leaf) (o : Op) (r : Leaf) → ((c : Prefix → Member) → IsChoice s c → test_under s c l o r ≡ true) → test_always s l o r ≡ true
always_to s l o r h =
    let order = in_order (prefixes_of l ++ prefixes_of r) in
    each_to s [] (with_parents (prefixes_of l ++ prefixes_of r)) l o r order.0 order.1 (nothing_start s) (λ c is a. h c is)

-- a filter whose prefixes are all chosen is settled: what it is now, it is in each choice that goes on
pub settled : (s : Sight) (ps : List Prefix) (d e : Choice) (f : Resolved) → ((p : Prefix) → IsIn p (any_prefixes f) → has d p ≡ true) → IsIn e (choices_from s ps d) → true_under s (chosen e) f ≡ true_under s (chosen d) f
settled s ps d e f all h =
    let x = choices_extend s ps d e h in
    truth_same s (chosen e) (chosen d) f (λ p k. ap (λ c. chosen c p) x.1 ∙ chosen_kept d x.0 p (all p k))

-- an early end: where a part that must hold is settled and false, no choice that goes on makes the whole true
pub early_end : (s : Sight) (ps : List Prefix) (d : Choice) (part whole : Resolved) → ((c : Prefix → Member) → true_under s c whole ≡ true → true_under s c part ≡ true) → ((p : Prefix) → IsIn p (any_prefixes part) → has d p ≡ true) → true_under s (chosen d) part ≡ false → list_any (λ e. true_under s (chosen e) whole) (choices_from s ps d) ≡ false
early_end s ps d part whole needs all fails =
    elim (true_or_false (list_any (λ e. true_under s (chosen e) whole) (choices_from s ps d))) [
      | inl found ↦
          (let r = any_in (λ e. true_under s (chosen e) whole) (choices_from s ps d) found in
          let a = needs (chosen r.0) r.2 in
          let b = settled s ps d r.0 part all r.1 in
          cc)
      | inr none ↦ none
    ]
