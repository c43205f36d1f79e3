-- Choices: each prefix has one member of its related list, or nobody exactly where that list is empty.
use Rattle.std.specs.Prelude.{◌-◌, List, [], ◌∷◌, ◌++◌, length, take, find, flat_map, slice_get, Option, Some, None}
use Rattle.std.specs.Option.{option_map_or}
use Rattle.pocket_types.specs.declared.resolved.Prefix.{Prefix}
use Rattle.pocket_types.specs.declared.resolved.Root.{Root}
use Rattle.pocket_types.specs.declared.resolved.Step.{Step}
use Rattle.pocket_meaning.specs.Members.{Member}
use Rattle.pocket_meaning.specs.Members as member
use Rattle.pocket_types.specs.Paths.{same_prefix, with_parents}
use Rattle.pocket_meaning.specs.Sights.{Sight}

-- prefixes with what they have chosen
abbrev pub Choice : Type 0
Choice = List (Prefix × Member)

-- what a prefix has chosen
abbrev pub chosen : Choice → Prefix → Member
chosen c p = option_map_or (λ x. x.1) (find (λ x. same_prefix x.0 p) c) member.Nobody

-- a prefix without its last step
abbrev pub parent : Prefix → Prefix
parent p = record { root = p.root; steps = take (length p.steps - 1) p.steps }

-- the last step of a prefix
abbrev pub last_step : Prefix → Option Step
last_step p = slice_get p.steps (length p.steps - 1)

-- the list of a root, or of a step from a member
abbrev pub seen_from : Sight → Root → Member → Option Step → List Member
seen_from s root m None = s.roots root
seen_from s root m (Some step) = s.steps step m

-- the list of a prefix as seen from what its parent has chosen
abbrev pub related : Sight → Choice → Prefix → List Member
related s c p = seen_from s p.root (chosen c (parent p)) (last_step p)

-- the members of a list, or nobody exactly where it is empty
abbrev pub or_nobody : List Member → List Member
or_nobody [] = member.Nobody ∷ []
or_nobody (m ∷ ms) = m ∷ ms

-- all choices for some prefixes, parents first, that go on from a choice
abbrev pub choices_from : Sight → List Prefix → Choice → List Choice
choices_from s [] c = c ∷ []
choices_from s (p ∷ ps) c = flat_map (λ m. choices_from s ps (c ++ (p, m) ∷ [])) (or_nobody (related s c p))

-- all choices for some prefixes with all that they begin with
abbrev pub choices : Sight → List Prefix → List Choice
choices s ps = choices_from s (with_parents ps) []
