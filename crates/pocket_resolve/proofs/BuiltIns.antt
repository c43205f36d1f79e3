-- The names that every record has are of a name's form.
use Rattle.std.proofs.Common.{◌≡◌, ℕ, Bool, true, false, ◌||◌, List, codes, bytes_eq, refl, sym, subst}
use Rattle.std.proofs.lemmas.Slice.Eq.{bytes_eq-Decides}
use Rattle.pocket_types.specs.Names.{is_name}
use Rattle.pocket_resolve.specs.Names.{is_built_in}

is_as_good : (s name : List ℕ) → is_name name ≡ true → bytes_eq s name ≡ true → is_name s ≡ true
is_as_good s name good same = subst (λ t. is_name t ≡ true) (sym ((bytes_eq-Decides s name).0 same)) good

either_good : (s : List ℕ) (a b : Bool) → (a ≡ true → is_name s ≡ true) → (b ≡ true → is_name s ≡ true) → (a || b) ≡ true → is_name s ≡ true
either_good s true b first second h = first refl
either_good s false b first second h = second h

pub built_in_is_name : (s : List ℕ) → is_built_in s ≡ true → is_name s ≡ true
built_in_is_name s =
    either_good s _ _
    (either_good s _ _ (either_good s _ _ (is_as_good s (codes "id") refl) (is_as_good s (codes "created") refl)) (is_as_good s (codes "updated") refl))
    (is_as_good s (codes "collectionName") refl)
