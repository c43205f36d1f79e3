-- A filter is as true in the one sight as in the other, where members are carried over.
use Rattle.std.proofs.Common.{◌≡◌, ◌⊎◌, inl, inr, List, [], ◌∷◌, ◌++◌, map, fold, flat_map, refl, sym, ap, subst, ◌∙◌, Bool, true, false, cond, ◌&&◌, ◌||◌}
use Rattle.std.specs.Prelude.{Some, None, find, IsTrue}
use mathlib.Core.Path.{fun_ext}
use Rattle.std.specs.List.{list_any, list_all}
use Rattle.std.specs.Option.{option_map_or}
use Rattle.std.proofs.lemmas.List.{map-append}
use Rattle.std.proofs.lemmas.List.Folds.{flat_map-map, list_all-map}
use Rattle.pocket_types.specs.declared.expr.Op.{Op}
use Rattle.pocket_types.specs.declared.resolved.Leaf.{Leaf}
use Rattle.pocket_types.specs.declared.resolved.Prefix.{Prefix}
use Rattle.pocket_types.specs.declared.resolved.Resolved.{Resolved}
use Rattle.pocket_types.specs.declared.resolved.Resolved.TheVariants as made
use Rattle.pocket_meaning.specs.Members.{Member}
use Rattle.pocket_meaning.specs.Members as member
use Rattle.pocket_types.specs.Paths.{same_prefix, begun, with_prefix, with_parents, prefixes_of}
use Rattle.pocket_types.specs.Inductions.{resolved_induction}
use Rattle.pocket_meaning.specs.Prefixes.{any_prefixes}
use Rattle.pocket_meaning.specs.Sights.{Sight, value_of}
use Rattle.pocket_meaning.specs.Choices.{Choice, chosen, parent, last_step, seen_from, related, or_nobody, choices_from}
use Rattle.pocket_meaning.specs.Choosing.{IsIn}
use Rattle.pocket_meaning.specs.Carrying.{Names, Carries, sides_of}
use Rattle.pocket_meaning.specs.Meaning.{test_under, test_always, true_under, true_in}
use Rattle.pocket_ops.specs.Comparison.{compare_values}
use Rattle.pocket_meaning.proofs.Layers.{true-any, true-plain, true-and, true-or, prefixes-any, prefixes-plain, prefixes-and, prefixes-or, sides-test, sides-and, sides-or}
use Rattle.pocket_meaning.proofs.MeaningLemmas.{list_any-map}
use Rattle.pocket_meaning.proofs.Picks.{has, in_append, in_left, in_right, in_flat_map, chosen_kept, true_or_false, prefix_is, find_right}

-- lists whose items are alike
pub flat_map_same : {X Y : Type 0} (f g : X → List Y) (xs : List X) → ((x : X) → IsIn x xs → f x ≡ g x) → flat_map f xs ≡ flat_map g xs
flat_map_same f g [] h = refl
flat_map_same f g (x ∷ xs) h = ap (λ l. l ++ flat_map f xs) (h x (inl refl)) ∙ ap (λ l. g x ++ l) (flat_map_same f g xs (λ y k. h y (inr k)))

pub map-flat_map : {X Y Z : Type 0} (k : Y → Z) (f : X → List Y) (xs : List X) → flat_map (λ x. map k (f x)) xs ≡ map k (flat_map f xs)
map-flat_map k f [] = refl
map-flat_map k f (x ∷ xs) = ap (λ l. map k (f x) ++ l) (map-flat_map k f xs) ∙ sym (map-append k (f x) (flat_map f xs))

pub any_same : {X : Type 0} (p q : X → Bool) (xs : List X) → ((x : X) → IsIn x xs → p x ≡ q x) → list_any p xs ≡ list_any q xs
any_same p q [] h = refl
any_same p q (x ∷ xs) h = ap (λ b. b || list_any p xs) (h x (inl refl)) ∙ ap (λ b. q x || b) (any_same p q xs (λ y k. h y (inr k)))

pub all_same : {X : Type 0} (p q : X → Bool) (xs : List X) → ((x : X) → IsIn x xs → p x ≡ q x) → list_all p xs ≡ list_all q xs
all_same p q [] h = refl
all_same p q (x ∷ xs) h = ap (λ b. b && list_all p xs) (h x (inl refl)) ∙ ap (λ b. q x && b) (all_same p q xs (λ y k. h y (inr k)))

-- what stands in the list of prefixes is a beginning of one of them
pub in_with : (l acc : List Prefix) (q : Prefix) → IsIn q (fold with_prefix acc l) → IsIn q acc ⊎ IsIn q l
in_with [] acc q h = inl h
in_with (p ∷ l) acc q h =
    let Q : List Prefix → Type 0 = λ x. IsIn q x in
    let put : Bool → List Prefix = λ b. cond b acc (acc ++ p ∷ []) in
    elim (in_with l (with_prefix acc p) q h) [
      | inl k ↦ elim (true_or_false (list_any (same_prefix p) acc)) [
        | inl e ↦ inl (subst (λ b. Q (put b)) e k)
        | inr e ↦ elim (in_append q acc (p ∷ []) (subst (λ b. Q (put b)) e k)) [ inl a ↦ inl a | inr b ↦ inr (elim b [ inl g ↦ inl g | inr g ↦ absurd g ]) ]
      ]
      | inr k ↦ inr (inr k)
    ]

pub in_parents : (ps : List Prefix) (q : Prefix) → IsIn q (with_parents ps) → (p : Prefix) × IsIn p ps × IsIn q (begun p)
in_parents ps q h = elim (in_with (flat_map begun ps) [] q h) [ inl k ↦ absurd k | inr k ↦ in_flat_map begun ps q k ]

-- a prefix of an any-match comparison is a side's own
pub any_in_sides : (f : Resolved) (p : Prefix) → IsIn p (any_prefixes f) → (l : Leaf) × IsIn l (sides_of f) × IsIn p (prefixes_of l)
any_in_sides =
    let P : Resolved → Type 0 = λ f. (p : Prefix) → IsIn p (any_prefixes f) → (l : Leaf) × IsIn l (sides_of f) × IsIn p (prefixes_of l) in
    resolved_induction P
    (λ l a o r. elim a as (λ a. P (made.Test l a o r)) [
      | true ↦ λ p h. elim (in_append p (prefixes_of l) (prefixes_of r) (subst (IsIn p) (prefixes-any l o r) h)) [ inl k ↦ (l, subst (IsIn l) (sym (sides-test l true o r)) (inl refl), k) | inr k ↦ (r, subst (IsIn r) (sym (sides-test l true o r)) (inr (inl refl)), k) ]
      | false ↦ λ p h. absurd (subst (IsIn p) (prefixes-plain l o r) h)
    ])
    (λ a b x y p h. elim (in_append p (any_prefixes a) (any_prefixes b) (subst (IsIn p) (prefixes-and a b) h)) [ inl k ↦ (let r = x p k in (r.0, subst (IsIn r.0) (sym (sides-and a b)) (in_left r.0 (sides_of a) (sides_of b) r.1), r.2)) | inr k ↦ (let r = y p k in (r.0, subst (IsIn r.0) (sym (sides-and a b)) (in_right r.0 (sides_of a) (sides_of b) r.1), r.2)) ])
    (λ a b x y p h. elim (in_append p (any_prefixes a) (any_prefixes b) (subst (IsIn p) (prefixes-or a b) h)) [ inl k ↦ (let r = x p k in (r.0, subst (IsIn r.0) (sym (sides-or a b)) (in_left r.0 (sides_of a) (sides_of b) r.1), r.2)) | inr k ↦ (let r = y p k in (r.0, subst (IsIn r.0) (sym (sides-or a b)) (in_right r.0 (sides_of a) (sides_of b) r.1), r.2)) ])

pub any_named : (f : Resolved) (q : Prefix) → IsIn q (with_parents (any_prefixes f)) → Names f q
any_named f q h =
    let p = in_parents (any_prefixes f) q h in
    let l = any_in_sides f p.0 p.1 in
    (l.0, l.1, (p.0, l.2, p.2))

module _ (s t : Sight) (carry : Member → Member) (fits : Prefix → Member → Bool) (whole : Resolved) (is : Carries s t carry fits whole) where
  -- a member fits a prefix
  abbrev pub Fits : Prefix → Member → Type 0
  Fits p m = IsTrue (fits p m)

  -- a choice with each member carried over
  abbrev pub carried : Choice → Choice
  carried = map (λ x. (x.0, carry x.1))

  -- each member of a choice fits its prefix
  abbrev pub Fit : Choice → Type 0
  Fit d = (p : Prefix) → Fits p (chosen d p)

  pub chosen_carried : (d : Choice) (p : Prefix) → chosen (carried d) p ≡ carry (chosen d p)
  chosen_carried [] p = sym is.nobody
  chosen_carried (x ∷ d) p =
      let a : Bool → Member = λ b. option_map_or (λ (x : Prefix × Member). x.1) (cond b (Some (x.0, carry x.1)) (find (λ x. same_prefix x.0 p) (carried d))) member.Nobody in
      let c : Bool → Member = λ b. carry (option_map_or (λ (x : Prefix × Member). x.1) (cond b (Some x) (find (λ x. same_prefix x.0 p) d)) member.Nobody) in
      let by : (b : Bool) → a b ≡ c b = λ b. elim b as (λ b. a b ≡ c b) [ true ↦ refl | false ↦ chosen_carried d p ] in
      by (same_prefix x.0 p)

  pub fit_more : (d : Choice) (p : Prefix) (m : Member) → Fit d → Fits p m → Fit (d ++ (p, m) ∷ [])
  fit_more d p m fit f q =
      let e : Choice = (p, m) ∷ [] in
      elim (true_or_false (has d q)) [
        | inl h ↦ subst (Fits q) (sym (chosen_kept d e q h)) (fit q)
        | inr h ↦
            (let only : Bool → Member = λ b. option_map_or (λ (x : Prefix × Member). x.1) (cond b (Some (p, m)) None) member.Nobody in
            let alone : chosen (d ++ e) q ≡ only (same_prefix p q) = ap (λ o. option_map_or (λ (x : Prefix × Member). x.1) o member.Nobody) (find_right (λ x. same_prefix x.0 q) d e h) in
            subst (Fits q) (sym alone) (elim (true_or_false (same_prefix p q)) [
              | inl k ↦ subst (λ b. Fits q (only b)) (sym k) (subst (λ z. Fits z m) ((prefix_is p q).0 k) f)
              | inr k ↦ subst (λ b. Fits q (only b)) (sym k) (is.nobody_fits q)
            ]))
      ]

  or_carried : (ms : List Member) → or_nobody (map carry ms) ≡ map carry (or_nobody ms)
  or_carried [] = ap (λ m. m ∷ []) (sym is.nobody)
  or_carried (m ∷ ms) = refl

  fits_or : (d : Choice) (p : Prefix) → Fit d → Names whole p → (x : Member) → IsIn x (or_nobody (related s d p)) → Fits p x
  fits_or d p fit named x h =
      let by : (ms : List Member) → ((y : Member) → IsIn y ms → Fits p y) → IsIn x (or_nobody ms) → Fits p x = λ ms. elim ms as (λ ms. ((y : Member) → IsIn y ms → Fits p y) → IsIn x (or_nobody ms) → Fits p x) [ [] ↦ λ g k. elim k [ inl e ↦ subst (Fits p) (sym e) (is.nobody_fits p) | inr z ↦ absurd z ] | m ∷ l ↦ λ g k. g x k ] in
      by (related s d p) (λ y k. is.members_fit p (chosen d (parent p)) y named (fit (parent p)) k) h

  pub choices_carried : (ps : List Prefix) (d : Choice) → Fit d → ((p : Prefix) → IsIn p ps → Names whole p) → choices_from t ps (carried d) ≡ map carried (choices_from s ps d)
  choices_carried [] d fit named = refl
  choices_carried (p ∷ ps) d fit named =
      let here = named p (inl refl) in
      let l : List Member = or_nobody (related s d p) in
      let go : Sight → Choice → Member → List Choice = λ z e m. choices_from z ps (e ++ (p, m) ∷ []) in
      let list : or_nobody (related t (carried d) p) ≡ map carry l = ap or_nobody (ap (λ m. seen_from t p.root m (last_step p)) (chosen_carried d (parent p)) ∙ is.lists p (chosen d (parent p)) here (fit (parent p))) ∙ or_carried (related s d p) in
      let each : (m : Member) → IsIn m l → go t (carried d) (carry m) ≡ map carried (go s d m) = λ m k. ap (choices_from t ps) (sym (map-append (λ (x : Prefix × Member). (x.0, carry x.1)) d ((p, m) ∷ []))) ∙ choices_carried ps (d ++ (p, m) ∷ []) (fit_more d p m fit (fits_or d p fit here m k)) (λ q g. named q (inr g)) in
      ap (flat_map (go t (carried d))) list ∙ flat_map-map (go t (carried d)) carry l ∙ flat_map_same (λ m. go t (carried d) (carry m)) (λ m. map carried (go s d m)) l each ∙ map-flat_map carried (go s d) l

  pub choices_fit : (ps : List Prefix) (d : Choice) → Fit d → ((p : Prefix) → IsIn p ps → Names whole p) → (e : Choice) → IsIn e (choices_from s ps d) → Fit e
  choices_fit [] d fit named e h = elim h [ inl k ↦ subst Fit (sym k) fit | inr k ↦ absurd k ]
  choices_fit (p ∷ ps) d fit named e h =
      let r = in_flat_map (λ m. choices_from s ps (d ++ (p, m) ∷ [])) (or_nobody (related s d p)) e h in
      choices_fit ps (d ++ (p, r.0) ∷ []) (fit_more d p r.0 fit (fits_or d p fit (named p (inl refl)) r.0 r.1)) (λ q g. named q (inr g)) e r.2

  none_fit : Fit []
  none_fit p = is.nobody_fits p

  value_carried : (d : Choice) (l : Leaf) → IsIn l (sides_of whole) → Fit d → value_of t (chosen (carried d)) l ≡ value_of s (chosen d) l
  value_carried d l side fit = ap (λ (c : Prefix → Member). value_of t c l) (fun_ext (chosen_carried d)) ∙ is.values l (chosen d) side fit

  test_carried : (d : Choice) (l : Leaf) (o : Op) (r : Leaf) → IsIn l (sides_of whole) → IsIn r (sides_of whole) → Fit d → test_under t (chosen (carried d)) l o r ≡ test_under s (chosen d) l o r
  test_carried d l o r a b fit =
      ap (λ v. compare_values o v (value_of t (chosen (carried d)) r)) (value_carried d l a fit) ∙ ap (compare_values o (value_of s (chosen d) l)) (value_carried d r b fit)

  own_named : (l r : Leaf) → IsIn l (sides_of whole) → IsIn r (sides_of whole) → (q : Prefix) → IsIn q (with_parents (prefixes_of l ++ prefixes_of r)) → Names whole q
  own_named l r a b q h =
      let p = in_parents (prefixes_of l ++ prefixes_of r) q h in
      elim (in_append p.0 (prefixes_of l) (prefixes_of r) p.1) [ inl k ↦ (l, a, (p.0, k, p.2)) | inr k ↦ (r, b, (p.0, k, p.2)) ]

  always_carried : (l : Leaf) (o : Op) (r : Leaf) → IsIn l (sides_of whole) → IsIn r (sides_of whole) → test_always t l o r ≡ test_always s l o r
  always_carried l o r a b =
      let ps : List Prefix = with_parents (prefixes_of l ++ prefixes_of r) in
      let named = own_named l r a b in
      ap (list_all (λ e. test_under t (chosen e) l o r)) (choices_carried ps [] none_fit named) ∙ list_all-map (λ e. test_under t (chosen e) l o r) carried (choices_from s ps []) ∙ all_same (λ e. test_under t (chosen (carried e)) l o r) (λ e. test_under s (chosen e) l o r) (choices_from s ps []) (λ e k. test_carried e l o r a b (choices_fit ps [] none_fit named e k))

  pub truth_carried : (d : Choice) → Fit d → (f : Resolved) → ((l : Leaf) → IsIn l (sides_of f) → IsIn l (sides_of whole)) → true_under t (chosen (carried d)) f ≡ true_under s (chosen d) f
  truth_carried d fit =
      resolved_induction (λ f. ((l : Leaf) → IsIn l (sides_of f) → IsIn l (sides_of whole)) → true_under t (chosen (carried d)) f ≡ true_under s (chosen d) f)
      (λ l a o r. elim a as (λ a. ((x : Leaf) → IsIn x (sides_of (made.Test l a o r)) → IsIn x (sides_of whole)) → true_under t (chosen (carried d)) (made.Test l a o r) ≡ true_under s (chosen d) (made.Test l a o r)) [
        | true ↦ λ h. true-any t (chosen (carried d)) l o r ∙ test_carried d l o r (h l (subst (IsIn l) (sym (sides-test l true o r)) (inl refl))) (h r (subst (IsIn r) (sym (sides-test l true o r)) (inr (inl refl)))) fit ∙ sym (true-any s (chosen d) l o r)
        | false ↦ λ h. true-plain t (chosen (carried d)) l o r ∙ always_carried l o r (h l (subst (IsIn l) (sym (sides-test l false o r)) (inl refl))) (h r (subst (IsIn r) (sym (sides-test l false o r)) (inr (inl refl)))) ∙ sym (true-plain s (chosen d) l o r)
      ])
      (λ a b x y h. true-and t (chosen (carried d)) a b ∙ ap (λ v. v && true_under t (chosen (carried d)) b) (x (λ l k. h l (subst (IsIn l) (sym (sides-and a b)) (in_left l (sides_of a) (sides_of b) k)))) ∙ ap (λ v. true_under s (chosen d) a && v) (y (λ l k. h l (subst (IsIn l) (sym (sides-and a b)) (in_right l (sides_of a) (sides_of b) k)))) ∙ sym (true-and s (chosen d) a b))
      (λ a b x y h. true-or t (chosen (carried d)) a b ∙ ap (λ v. v || true_under t (chosen (carried d)) b) (x (λ l k. h l (subst (IsIn l) (sym (sides-or a b)) (in_left l (sides_of a) (sides_of b) k)))) ∙ ap (λ v. true_under s (chosen d) a || v) (y (λ l k. h l (subst (IsIn l) (sym (sides-or a b)) (in_right l (sides_of a) (sides_of b) k)))) ∙ sym (true-or s (chosen d) a b))

  pub carried_truth : true_in t whole ≡ true_in s whole
  carried_truth =
      let ps : List Prefix = with_parents (any_prefixes whole) in
      let named = any_named whole in
      ap (list_any (λ e. true_under t (chosen e) whole)) (choices_carried ps [] none_fit named) ∙ list_any-map (λ e. true_under t (chosen e) whole) carried (choices_from s ps []) ∙ any_same (λ e. true_under t (chosen (carried e)) whole) (λ e. true_under s (chosen e) whole) (choices_from s ps []) (λ e k. truth_carried e (choices_fit ps [] none_fit named e k) whole (λ l g. g))
