-- Lists: what stands among the items, and where.
use Rattle.std.proofs.Common.{◌≡◌, ◌⊎◌, inl, inr, ℕ, zero, suc, ◌+◌, ◌<◌, ◌≤◌, ◌∙◌, Bool, true, false, filter, List, [], ◌∷◌, ◌++◌, Option, Some, None, length, get_or, map, take, drop, refl, sym, ap, subst, arith, All}
use Rattle.std.specs.Prelude.{cond, Contains, slice_get, IfOk, IfSome, Result, Ok, Err}
use Rattle.std.proofs.lemmas.List.Elements.{All-head, All-tail, All-cons, All-push}
use Rattle.std.proofs.lemmas.List.{take_more}
use Rattle.std.proofs.lemmas.Grind.{common_steps}

-- x is one of the items
abbrev pub IsIn : {X : Type 0} → X → List X → Type 0
IsIn x [] = ⊥
IsIn x (y ∷ ys) = (x ≡ y) ⊎ IsIn x ys

pub in_from_contains : {X : Type 0} (xs : List X) (x : X) → Contains xs x → IsIn x xs
in_from_contains [] x (k, within, is) = absurd (omega (arith, within))
in_from_contains (y ∷ ys) x (zero, within, is) = inl (sym is)
in_from_contains (y ∷ ys) x (suc k, within, is) = inr (in_from_contains ys x (k, omega (arith, within), is))

pub contains_from_in : {X : Type 0} (xs : List X) (x : X) → IsIn x xs → Contains xs x
contains_from_in [] x h = absurd h
contains_from_in (y ∷ ys) x (inl e) = (0, omega arith, sym e)
contains_from_in (y ∷ ys) x (inr h) = let rest = contains_from_in ys x h in (suc rest.0, omega (arith, rest.1), rest.2)

pub in_front : {X : Type 0} (xs ys : List X) (x : X) → IsIn x xs → IsIn x (xs ++ ys)
in_front [] ys x h = absurd h
in_front (y ∷ xs) ys x (inl e) = inl e
in_front (y ∷ xs) ys x (inr h) = inr (in_front xs ys x h)

pub in_back : {X : Type 0} (xs ys : List X) (x : X) → IsIn x ys → IsIn x (xs ++ ys)
in_back [] ys x h = h
in_back (y ∷ xs) ys x h = inr (in_back xs ys x h)

pub in_either : {X : Type 0} (xs ys : List X) (x : X) → IsIn x (xs ++ ys) → IsIn x xs ⊎ IsIn x ys
in_either [] ys x h = inr h
in_either (y ∷ xs) ys x (inl e) = inl (inl e)
in_either (y ∷ xs) ys x (inr h) = elim (in_either xs ys x h) [ inl l ↦ inl (inr l) | inr r ↦ inr r ]

-- what holds of each item holds of one of them
pub all_in : {X : Type 0} (P : X → Type 0) (xs : List X) (x : X) → All P xs → IsIn x xs → P x
all_in P [] x all h = absurd h
all_in P (y ∷ ys) x all (inl e) = subst P (sym e) (All-head P y ys all)
all_in P (y ∷ ys) x all (inr h) = all_in P ys x (All-tail P y ys all) h

-- what holds of whatever is one of the items holds of each
pub all_from_in : {X : Type 0} (P : X → Type 0) (xs : List X) → ((x : X) → IsIn x xs → P x) → All P xs
all_from_in P [] h = λ k d within. absurd (omega (arith, within))
all_from_in P (x ∷ xs) h = All-cons P x xs (h x (inl refl)) (all_from_in P xs (λ y i. h y (inr i)))

-- an item that is got is one of them
pub in_from_get : {X : Type 0} (xs : List X) (k : ℕ) (x : X) → slice_get xs k ≡ Some x → IsIn x xs
in_from_get [] k x e = cc
in_from_get (y ∷ ys) zero x e = inl cc
in_from_get (y ∷ ys) (suc k) x e = inr (in_from_get ys k x e)

-- the item at a place
pub record IsAt {X : Type 0} (xs : List X) (k : ℕ) (x : X) : Type 0 where
  pub got : slice_get xs k ≡ Some x
  pub read : (d : X) → get_or xs k d ≡ x

pub item_at : {X : Type 0} (xs : List X) (k : ℕ) → k < length xs → (x : X) × IsAt xs k x
item_at [] k within = absurd (omega arith)
item_at (x ∷ xs) zero within = (x, record { got = refl; read = λ d. refl })
item_at (x ∷ xs) (suc k) within =
    let rest = item_at xs k (omega arith) in
    (rest.0, record { got = rest.1.got; read = rest.1.read })

-- what is made of one of the items is one of what is made of all
pub in_map : {X Y : Type 0} (f : X → Y) (xs : List X) (x : X) → IsIn x xs → IsIn (f x) (map f xs)
in_map f [] x h = absurd h
in_map f (y ∷ ys) x (inl e) = inl (ap f e)
in_map f (y ∷ ys) x (inr h) = inr (in_map f ys x h)

pub in_map_back : {X Y : Type 0} (f : X → Y) (xs : List X) (y : Y) → IsIn y (map f xs) → (x : X) × IsIn x xs × (y ≡ f x)
in_map_back f [] y h = absurd h
in_map_back f (x ∷ xs) y (inl e) = (x, inl refl, e)
in_map_back f (x ∷ xs) y (inr h) = let rest = in_map_back f xs y h in (rest.0, inr rest.1, rest.2)

pub parts_at : {X : Type 0} (xs : List X) (k : ℕ) (d : X) → k < length xs → xs ≡ take k xs ++ get_or xs k d ∷ drop (suc k) xs
parts_at [] k d h = absurd (omega (arith, h))
parts_at (x ∷ xs) zero d h = refl
parts_at (x ∷ xs) (suc k) d h = ap (λ t. x ∷ t) (parts_at xs k d (omega (arith, h)))

-- one item more that passes
pub all_more : {X : Type 0} (P : X → Type 0) (xs : List X) (k : ℕ) (x : X) → k < length xs → x ≡ get_or xs k x → P x → All P (take k xs) → All P (take (k + 1) xs)
all_more P xs k x within is h all =
    subst (λ l. All P l) (sym (take_more xs k x within ∙ ap (λ y. take k xs ++ y ∷ []) (sym is))) (All-push P (take k xs) x all h)

-- not all pass where one doesn't
pub not_all : {X : Type 0} (P : X → Type 0) (xs : List X) (k : ℕ) (x : X) → k < length xs → x ≡ get_or xs k x → ¬ P x → ¬ All P xs
not_all P xs k x within is fails all = fails (subst P (sym is) (all k x within))

pub take_all : {X : Type 0} (xs : List X) (k : ℕ) → length xs ≤ k → take k xs ≡ xs
take_all xs k h = grind (arith, common_steps)

-- all pass where all that were tried do
pub all_tried : {X : Type 0} (P : X → Type 0) (xs : List X) (k : ℕ) → length xs ≤ k → All P (take k xs) → All P xs
all_tried P xs k h all = subst (λ l. All P l) (take_all xs k h) all

-- what follows for the value of an Ok
pub ok_map : {A E : Type 0} (P Q : A → Type 0) (r : Result A E) → ((x : A) → P x → Q x) → IfOk r P → IfOk r Q
ok_map P Q (Ok x) f h = f x h
ok_map P Q (Err e) f h = tt

-- what follows for the value of a Some
pub some_map : {X : Type 0} (P Q : X → Type 0) (o : Option X) → ((x : X) → P x → Q x) → IfSome o P → IfSome o Q
some_map P Q (Some x) f h = f x h
some_map P Q None f h = tt

-- ---- what passes a test

pub in_filter : {X : Type 0} (p : X → Bool) (xs : List X) (x : X) → IsIn x xs → p x ≡ true → IsIn x (filter p xs)
in_filter p [] x h t = absurd h
in_filter p (y ∷ ys) x (inl e) t = subst (λ b. IsIn x (cond b (y ∷ filter p ys) (filter p ys))) (sym (ap p (sym e) ∙ t)) (inl e)
in_filter p (y ∷ ys) x (inr h) t = by (p y) (in_filter p ys x h t)
  where
    by : (b : Bool) → IsIn x (filter p ys) → IsIn x (cond b (y ∷ filter p ys) (filter p ys))
    by true i = inr i
    by false i = i

pub of_filter : {X : Type 0} (p : X → Bool) (xs : List X) (x : X) → IsIn x (filter p xs) → IsIn x xs × (p x ≡ true)
of_filter p [] x h = absurd h
of_filter p (y ∷ ys) x h = by (p y) refl (of_filter p ys x) h
  where
    by : (b : Bool) → p y ≡ b → (IsIn x (filter p ys) → IsIn x ys × (p x ≡ true)) → IsIn x (cond b (y ∷ filter p ys) (filter p ys)) → IsIn x (y ∷ ys) × (p x ≡ true)
    by true is rest (inl e) = (inl e, ap p e ∙ is)
    by true is rest (inr i) = let r = rest i in (inr r.0, r.1)
    by false is rest i = let r = rest i in (inr r.0, r.1)
