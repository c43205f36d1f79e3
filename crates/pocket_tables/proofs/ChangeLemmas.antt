-- Lists of changes: what look-ups find after them, the changes that lead back, and how many places both ways take.
use Rattle.std.proofs.Common.{◌≡◌, ◌⊎◌, inl, inr, ℕ, ◌+◌, List, [], ◌∷◌, ◌++◌, Bool, true, false, refl, sym, ◌∙◌, ap, subst, map, filter, length, All, Option, Some, None, arith}
use Rattle.std.specs.Prelude.{cond, IfSome, IsTrue, ◌||◌}
use Rattle.std.specs.Option.{option_to_list}
use Rattle.std.specs.Str.{bytes_eq}
use Rattle.std.proofs.lemmas.Bool.{cond-false, or_from, or_parts}
use Rattle.std.proofs.lemmas.List.Elements.{All-head, All-tail, All-cons, All-append, All-nil, All-weaker}
use Rattle.pocket_types.specs.Order.{is_before, Rises}
use Rattle.pocket_types.proofs.OrderLemmas.{before_from}
use Rattle.pocket_tables.specs.Keyed.{AtDistinctKeys, Change, change_to, is_touched, find_key, places_wanted, changes_back, put_at, put_all}
use Rattle.pocket_tables.proofs.KeyLemmas.{key_differs_back, key_same, differs_below, differs_above, find_key-put_at, found_bears_key, rises-put_at, look_ups_tell, length-put_at, unfolding_put_at}

-- ---- keys that are touched once

not_at_later : {T : Type 0} (k : List ℕ) (done : List (Change T)) (c : Change T) (rest : List (Change T)) → is_touched k (done ++ c ∷ rest) ≡ false → bytes_eq c.0 k ≡ false
not_at_later k [] c rest h = (or_parts (bytes_eq c.0 k) (is_touched k rest) h).0
not_at_later k (m ∷ done) c rest h = not_at_later k done c rest (or_parts (bytes_eq m.0 k) (is_touched k (done ++ c ∷ rest)) h).1

pub not_at_earlier : {T : Type 0} (done : List (Change T)) (c : Change T) (rest : List (Change T)) → AtDistinctKeys (done ++ c ∷ rest) → is_touched c.0 done ≡ false
not_at_earlier [] c rest h = refl
not_at_earlier (m ∷ done) c rest h = or_from (bytes_eq m.0 c.0) (is_touched c.0 done) (key_differs_back c.0 m.0 (not_at_later m.0 done c rest h.0)) (not_at_earlier done c rest h.1)

module _ {T : Type 0} (key : T → List ℕ) where
  -- what each change puts bears its key
  abbrev pub BearKeys : List (Change T) → Type 0
  BearKeys changes = All (λ c. IfSome c.1 (λ x. key x ≡ c.0)) changes

  pub put_all-append : (front back : List (Change T)) (xs : List T) → put_all key (front ++ back) xs ≡ put_all key back (put_all key front xs)
  put_all-append [] back xs = refl
  put_all-append (c ∷ front) back xs = put_all-append front back (put_at key c.0 c.1 xs)

  bears_head : (c : Change T) (changes : List (Change T)) → BearKeys (c ∷ changes) → IfSome c.1 (λ x. key x ≡ c.0)
  bears_head c changes h = All-head (λ c. IfSome c.1 (λ x. key x ≡ c.0)) c changes h

  bears_tail : (c : Change T) (changes : List (Change T)) → BearKeys (c ∷ changes) → BearKeys changes
  bears_tail c changes h = All-tail (λ c. IfSome c.1 (λ x. key x ≡ c.0)) c changes h

  pub rises-put_all : (changes : List (Change T)) (xs : List T) → Rises key xs → BearKeys changes → Rises key (put_all key changes xs)
  rises-put_all [] xs rising named = rising
  rises-put_all (c ∷ changes) xs rising named =
      rises-put_all changes (put_at key c.0 c.1 xs) (rises-put_at key c.0 c.1 xs rising (bears_head c changes named)) (bears_tail c changes named)

  -- at a key that isn't touched a look-up finds what it found
  pub find_key-untouched : (j : List ℕ) (changes : List (Change T)) (xs : List T) → BearKeys changes → is_touched j changes ≡ false
      → find_key key j (put_all key changes xs) ≡ find_key key j xs
  find_key-untouched j [] xs named h = refl
  find_key-untouched j (c ∷ changes) xs named h =
      let parts = or_parts (bytes_eq c.0 j) (is_touched j changes) h in
      find_key-untouched j changes (put_at key c.0 c.1 xs) (bears_tail c changes named) parts.1
      ∙ find_key-put_at key j c.0 c.1 xs (bears_head c changes named)
      ∙ cond-false (bytes_eq c.0 j) c.1 (find_key key j xs) parts.0

  -- where what is put is a function of the key, a look-up at a key that is touched finds what the function gives
  pub find_key-change_to : (f : List ℕ → Option T) → ((k : List ℕ) → IfSome (f k) (λ x. key x ≡ k)) → (j : List ℕ) (changes : List (Change T)) (xs : List T)
      → find_key key j (put_all key (map (change_to f) changes) xs) ≡ cond (is_touched j changes) (f j) (find_key key j xs)
  find_key-change_to f named j [] xs = refl
  find_key-change_to f named j (c ∷ changes) xs =
      find_key-change_to f named j changes (put_at key c.0 (f c.0) xs)
      ∙ ap (cond (is_touched j changes) (f j)) (find_key-put_at key j c.0 (f c.0) xs (named c.0))
      ∙ by (bytes_eq c.0 j) refl (is_touched j changes)
    where
      by : (b : Bool) → bytes_eq c.0 j ≡ b → (m : Bool) → cond m (f j) (cond b (f c.0) (find_key key j xs)) ≡ cond (b || m) (f j) (find_key key j xs)
      by true e true = refl
      by true e false = ap f (key_same c.0 j e)
      by false e true = refl
      by false e false = refl

  back_bears_key : (xs : List T) (k : List ℕ) → IfSome (find_key key k xs) (λ x. key x ≡ k)
  back_bears_key xs k = found_bears_key key k xs

  pub bear_keys-changes_back : (changes : List (Change T)) (xs : List T) → BearKeys (changes_back key xs changes)
  bear_keys-changes_back [] xs = All-nil (λ c. IfSome c.1 (λ x. key x ≡ c.0))
  bear_keys-changes_back (c ∷ changes) xs = All-cons (λ c. IfSome c.1 (λ x. key x ≡ c.0)) (c.0, find_key key c.0 xs) (changes_back key xs changes) (found_bears_key key c.0 xs) (bear_keys-changes_back changes xs)

  -- the changes back lead back
  pub put_all-changes_back : (changes : List (Change T)) (xs : List T) → Rises key xs → BearKeys changes
      → put_all key (changes_back key xs changes) (put_all key changes xs) ≡ xs
  put_all-changes_back changes xs rising named =
      let after = put_all key changes xs in
      look_ups_tell key (put_all key (changes_back key xs changes) after) xs
      (rises-put_all (changes_back key xs changes) after (rises-put_all changes xs rising named) (bear_keys-changes_back changes xs)) rising
      (λ j. find_key-change_to (λ k. find_key key k xs) (back_bears_key xs) j changes after ∙ by j (is_touched j changes) refl)
    where
      by : (j : List ℕ) (b : Bool) → is_touched j changes ≡ b → cond b (find_key key j xs) (find_key key j (put_all key changes xs)) ≡ find_key key j xs
      by j true e = refl
      by j false e = find_key-untouched j changes xs named e

  -- a change at another key leaves the changes back as they are
  same_changes_back : (k : List ℕ) (after : Option T) (xs : List T) (changes : List (Change T)) → IfSome after (λ x. key x ≡ k) → is_touched k changes ≡ false
      → changes_back key (put_at key k after xs) changes ≡ changes_back key xs changes
  same_changes_back k after xs [] named h = refl
  same_changes_back k after xs (c ∷ changes) named h =
      let parts = or_parts (bytes_eq c.0 k) (is_touched k changes) h in
      let first : find_key key c.0 (put_at key k after xs) ≡ find_key key c.0 xs =
      find_key-put_at key c.0 k after xs named ∙ cond-false (bytes_eq k c.0) after (find_key key c.0 xs) (key_differs_back c.0 k parts.0) in
      let rest : changes_back key (put_at key k after xs) changes ≡ changes_back key xs changes = same_changes_back k after xs changes named parts.1 in
      λ i. (c.0, first i) ∷ rest i

  -- the places that the items and the changes take are those that the items afterwards and the changes back take
  pub places_balance : (changes : List (Change T)) (xs : List T) → Rises key xs → BearKeys changes → AtDistinctKeys changes
      → length (put_all key changes xs) + places_wanted (changes_back key xs changes) ≡ length xs + places_wanted changes
  places_balance [] xs rising named distinct = refl
  places_balance (c ∷ changes) xs rising named distinct =
      let next = put_at key c.0 c.1 xs in
      let head = bears_head c changes named in
      let h = places_balance changes next (rises-put_at key c.0 c.1 xs rising head) (bears_tail c changes named) distinct.1 in
      let same = ap places_wanted (same_changes_back c.0 c.1 xs changes head distinct.0) in
      let one = length-put_at key c.0 c.1 xs rising in
      omega (arith, h, same, one)

  -- what holds of each item that is put, and of each old one that isn't touched, holds of all items afterwards
  abbrev IsTouchedOr : (T → Type 0) → List (Change T) → T → Type 0
  IsTouchedOr P changes x = IsTrue (is_touched (key x) changes) ⊎ P x

  touched_or_next : (P : T → Type 0) (c : Change T) (changes : List (Change T)) (x : T) → bytes_eq c.0 (key x) ≡ false → IsTouchedOr P (c ∷ changes) x → IsTouchedOr P changes x
  touched_or_next P c changes x e (inl h) = inl (subst (λ b. IsTrue (b || is_touched (key x) changes)) e h)
  touched_or_next P c changes x e (inr p) = inr p

  touched_or_filtered : (P : T → Type 0) (c : Change T) (changes : List (Change T)) (p : T → Bool)
      → ((x : T) → p x ≡ true → bytes_eq c.0 (key x) ≡ false) → (xs : List T) → All (IsTouchedOr P (c ∷ changes)) xs → All (IsTouchedOr P changes) (filter p xs)
  touched_or_filtered P c changes p differs [] h = All-nil (IsTouchedOr P changes)
  touched_or_filtered P c changes p differs (x ∷ xs) h = by (p x) refl (touched_or_filtered P c changes p differs xs (All-tail (IsTouchedOr P (c ∷ changes)) x xs h))
    where
      by : (b : Bool) → p x ≡ b → All (IsTouchedOr P changes) (filter p xs) → All (IsTouchedOr P changes) (cond b (x ∷ filter p xs) (filter p xs))
      by true e rest = All-cons (IsTouchedOr P changes) x (filter p xs) (touched_or_next P c changes x (differs x e) (All-head (IsTouchedOr P (c ∷ changes)) x xs h)) rest
      by false e rest = rest

  pub all-put_all : (P : T → Type 0) (changes : List (Change T)) (xs : List T) → All (λ c. IfSome c.1 P) changes → All (IsTouchedOr P changes) xs
      → All P (put_all key changes xs)
  all-put_all P [] xs places_wanted h = All-weaker (IsTouchedOr P []) P (λ x s. elim s [ inl e ↦ absurd (let f = e in cc) | inr p ↦ p ]) xs h
  all-put_all P (c ∷ changes) xs places_wanted h =
      all-put_all P changes (put_at key c.0 c.1 xs) (All-tail (λ c. IfSome c.1 P) c changes places_wanted)
      (subst (λ l. All (IsTouchedOr P changes) l) (sym (unfolding_put_at key c.0 c.1 xs))
      (All-append (IsTouchedOr P changes) (filter (λ x. is_before (key x) c.0) xs) (option_to_list c.1 ++ filter (λ x. is_before c.0 (key x)) xs)
      (touched_or_filtered P c changes (λ x. is_before (key x) c.0) (λ x e. differs_above c.0 (key x) (before_from (key x) c.0 e)) xs h)
      (put c.1 (All-head (λ c. IfSome c.1 P) c changes places_wanted)
      (touched_or_filtered P c changes (λ x. is_before c.0 (key x)) (λ x e. differs_below c.0 (key x) (before_from c.0 (key x) e)) xs h))))
    where
      put : (after : Option T) → IfSome after P → All (IsTouchedOr P changes) (filter (λ x. is_before c.0 (key x)) xs) → All (IsTouchedOr P changes) (option_to_list after ++ filter (λ x. is_before c.0 (key x)) xs)
      put None p rest = rest
      put (Some x) p rest = All-cons (IsTouchedOr P changes) x (filter (λ x. is_before c.0 (key x)) xs) (inr p) rest
