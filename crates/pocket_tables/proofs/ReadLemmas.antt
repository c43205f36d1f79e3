-- Reads among the records of a collection.
use Rattle.std.proofs.Common.{◌≡◌, ℕ, List, [], ◌∷◌, Bool, true, false, refl, ◌∙◌, ap, filter, Some, None}
use Rattle.std.specs.Prelude.{cond, find, zip, IfSome, All, slice_get}
use Rattle.std.specs.Option.{option_map_or}
use Rattle.std.specs.Str.{bytes_eq}
use Rattle.std.proofs.lemmas.List.Elements.{All-head, All-tail}
use Rattle.pocket_types.specs.declared.records.Cell.{Cell}
use Rattle.pocket_types.specs.declared.records.Collection.{Collection}
use Rattle.pocket_types.specs.declared.records.Field.{Field}
use Rattle.pocket_types.specs.declared.records.Rec.{Rec}
use Rattle.pocket_types.specs.declared.world.World.{World}
use Rattle.pocket_tables.specs.Reads.{passing}
use Rattle.pocket_tables.specs.Worlds.{collection_at, recs_at}
use Rattle.pocket_tables.proofs.KeyLemmas.{key_same}

-- the first that passes one test, of those that pass another, is the first that passes the other, of those that pass the one
pub find-filter : {T : Type 0} (p q : T → Bool) (xs : List T) → find p (filter q xs) ≡ find q (filter p xs)
find-filter p q [] = refl
find-filter p q (x ∷ xs) = by (p x) refl (q x) refl (find-filter p q xs)
  where
    by : (a : Bool) → p x ≡ a → (b : Bool) → q x ≡ b → find p (filter q xs) ≡ find q (filter p xs) → find p (cond b (x ∷ filter q xs) (filter q xs)) ≡ find q (cond a (x ∷ filter p xs) (filter p xs))
    by true e true f h = rw (e, f) refl
    by true e false f h = rw f h
    by false e true f h = rw e h
    by false e false f h = h

-- the first that passes is the first of those that pass
pub find_first : {T : Type 0} (p : T → Bool) (xs : List T) → find p xs ≡ slice_get (filter p xs) 0
find_first p [] = refl
find_first p (x ∷ xs) = by (p x) (find_first p xs)
  where
    by : (a : Bool) → find p xs ≡ slice_get (filter p xs) 0 → cond a (Some x) (find p xs) ≡ slice_get (cond a (x ∷ filter p xs) (filter p xs)) 0
    by true h = refl
    by false h = h

-- ---- those of a collection that pass a test

pub passing_of_some : (q : Collection → Rec → Bool) (w : World) (name : List ℕ) (k : Collection) (recs : List Rec) → collection_at w name ≡ Some k → recs_at w name ≡ recs
    → passing w name q ≡ filter (q k) recs
passing_of_some q w name k recs at is = ap (λ o. option_map_or (λ c. filter (q c) (recs_at w name)) o []) at ∙ ap (filter (q k)) is

pub passing_of_none : (q : Collection → Rec → Bool) (w : World) (name : List ℕ) → collection_at w name ≡ None
    → passing w name q ≡ []
passing_of_none q w name at = ap (λ o. option_map_or (λ c. filter (q c) (recs_at w name)) o []) at

-- ---- single fields

pub found_single : (P : Field → Type 0) (fields : List Field) (cells : List Cell) (name : List ℕ) → All (λ f. f.name ≡ name → P f) fields
    → IfSome (find (λ x. bytes_eq x.0.name name) (zip fields cells)) (λ x. P x.0)
found_single P [] cells name h = tt
found_single P (f ∷ fields) [] name h = tt
found_single P (f ∷ fields) (c ∷ cells) name h = by (bytes_eq f.name name) refl (found_single P fields cells name (All-tail (λ f. f.name ≡ name → P f) f fields h))
  where
    by : (b : Bool) → bytes_eq f.name name ≡ b → IfSome (find (λ x. bytes_eq x.0.name name) (zip fields cells)) (λ x. P x.0)
        → IfSome (cond b (Some (f, c)) (find (λ x. bytes_eq x.0.name name) (zip fields cells))) (λ x. P x.0)
    by true e rest = All-head (λ f. f.name ≡ name → P f) f fields h (key_same f.name name e)
    by false e rest = rest
