-- When one sight may stand for another: members go over by a map, as a record goes to what is left of it for a caller.
use Rattle.std.specs.Prelude.{◌≡◌, Bool, List, [], ◌∷◌, ◌++◌, map, IsTrue}
use Rattle.pocket_types.specs.Paths.{begun, prefixes_of}
use Rattle.pocket_types.specs.declared.resolved.Leaf.{Leaf}
use Rattle.pocket_types.specs.declared.resolved.Prefix.{Prefix}
use Rattle.pocket_types.specs.declared.resolved.Resolved.{Resolved, fold-Resolved}
use Rattle.pocket_types.specs.declared.resolved.Resolved.TheOpen.{Resolved-F}
use Rattle.pocket_types.specs.declared.resolved.Resolved.TheOpen as filter
use Rattle.pocket_meaning.specs.Members.{Member}
use Rattle.pocket_meaning.specs.Members as member
use Rattle.pocket_meaning.specs.Sights.{Sight, value_of}
use Rattle.pocket_meaning.specs.Choices.{seen_from, parent, last_step}
use Rattle.pocket_meaning.specs.Choosing.{IsIn}

-- the sides of a filter's comparisons, one level of the filter at a time
abbrev pub sides_in : Resolved-F (List Leaf) → List Leaf
sides_in (filter.Test left any op right) = left ∷ right ∷ []
sides_in (filter.And a b) = a ++ b
sides_in (filter.Or a b) = a ++ b

-- the sides of a filter's comparisons
abbrev pub sides_of : Resolved → List Leaf
sides_of = fold-Resolved (List Leaf) sides_in

-- a filter names the prefixes of its sides, with all that they begin with
abbrev pub Names : Resolved → Prefix → Type 0
Names f q = (l : Leaf) × IsIn l (sides_of f) × ((p : Prefix) × IsIn p (prefixes_of l) × IsIn q (begun p))

-- the second sight gives the lists and the values of the first, each member carried over, as far as the filter names them
-- and the members fit their prefixes
pub record Carries (s t : Sight) (carry : Member → Member) (fits : Prefix → Member → Bool) (f : Resolved) : Type 0 where
  pub nobody : carry member.Nobody ≡ member.Nobody
  pub nobody_fits : (p : Prefix) → IsTrue (fits p member.Nobody)
  pub lists : (p : Prefix) (m : Member) → Names f p → IsTrue (fits (parent p) m) → seen_from t p.root (carry m) (last_step p) ≡ map carry (seen_from s p.root m (last_step p))
  pub members_fit : (p : Prefix) (m x : Member) → Names f p → IsTrue (fits (parent p) m) → IsIn x (seen_from s p.root m (last_step p)) → IsTrue (fits p x)
  pub values : (l : Leaf) (c : Prefix → Member) → IsIn l (sides_of f) → ((p : Prefix) → IsTrue (fits p (c p))) → value_of t (λ p. carry (c p)) l ≡ value_of s c l
