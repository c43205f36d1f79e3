-- Choices as a relation on all prefixes at once, and what it is for a filter to hold by it.
use Rattle.std.specs.Prelude.{◌≡◌, Bool, List, [], ◌∷◌, ◌++◌, ◌⊎◌, ⊤, None, map, filter, not, IsTrue}
use Rattle.std.specs.List.{AllByRecursion, list_any}
use Rattle.pocket_types.specs.Paths.{same_prefix}
use Rattle.pocket_types.specs.declared.resolved.Prefix.{Prefix}
use Rattle.pocket_types.specs.declared.resolved.Resolved.{Resolved}
use Rattle.pocket_types.specs.declared.resolved.Root.{Root}
use Rattle.pocket_types.specs.declared.resolved.Step.{Step}
use Rattle.pocket_meaning.specs.Members.{Member}
use Rattle.pocket_meaning.specs.Sights.{Sight}
use Rattle.pocket_meaning.specs.Choices.{Choice, parent, last_step, or_nobody}
use Rattle.pocket_meaning.specs.Meaning.{true_under}

-- x is an item of the list
abbrev pub IsIn : {X : Type 0} → X → List X → Type 0
IsIn x [] = ⊥
IsIn x (y ∷ ys) = (x ≡ y) ⊎ IsIn x ys

-- a root without steps
abbrev pub bare : Root → Prefix
bare r = record { root = r; steps = [] }

-- a prefix with one more step
abbrev pub then_step : Prefix → Step → Prefix
then_step p t = record { root = p.root; steps = p.steps ++ t ∷ [] }

-- each prefix has one member of its list as seen from what its parent has, or nobody where that list is empty
pub record IsChoice (s : Sight) (c : Prefix → Member) : Type 0 where
  pub root : (r : Root) → IsIn (c (bare r)) (or_nobody (s.roots r))
  pub step : (p : Prefix) (t : Step) → IsIn (c (then_step p t)) (or_nobody (s.steps t (c p)))

-- the prefixes of a choice
abbrev pub chosen_prefixes : Choice → List Prefix
chosen_prefixes = map (λ x. x.0)

-- whether a prefix stands in the list
abbrev pub among : List Prefix → Prefix → Bool
among ps q = list_any (λ x. same_prefix x q) ps

-- the prefixes of the second list stand in the first
abbrev pub HasAll : List Prefix → List Prefix → Type 0
HasAll ps qs = (q : Prefix) → IsIn q qs → IsTrue (among ps q)

-- each prefix is a bare root, or its parent stands before it: in the first list, or earlier in its own
abbrev pub AreParentsFirst : List Prefix → List Prefix → Type 0
AreParentsFirst before [] = ⊤
AreParentsFirst before (p ∷ ps) = ((last_step p ≡ None) ⊎ IsTrue (among before (parent p))) × AreParentsFirst (before ++ p ∷ []) ps

-- a list of prefixes without those that a start has
abbrev pub rest_of : List Prefix → List Prefix → List Prefix
rest_of start = filter (λ p. not (among start p))

-- a choice of all prefixes has all that this one has
abbrev pub Agrees : (Prefix → Member) → Choice → Type 0
Agrees c d = AllByRecursion (λ x. c x.0 ≡ x.1) d

-- some choice of all prefixes agrees with it
abbrev pub IsStart : Sight → Choice → Type 0
IsStart s d = (c : Prefix → Member) × IsChoice s c × Agrees c d

-- every choice of all prefixes agrees with it
abbrev pub IsShared : Sight → Choice → Type 0
IsShared s d = (c : Prefix → Member) → IsChoice s c → Agrees c d

-- some choice makes the filter true
abbrev pub Holds : Sight → Resolved → Type 0
Holds s f = (c : Prefix → Member) × IsChoice s c × IsTrue (true_under s c f)
