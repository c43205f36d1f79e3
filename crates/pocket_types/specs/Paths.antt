-- Prefixes: when two are the same, what they begin with, and several with all that they begin with.
use Rattle.std.specs.Prelude.{Bool, true, false, ◌&&◌, List, [], ◌∷◌, ◌++◌, map, fold, flat_map, if◌then◌else◌}
use Rattle.std.specs.List.{list_any}
use Rattle.std.specs.Str.{bytes_eq}
use Rattle.std.specs.Cmp.Lexicographic.{pointwise}
use Rattle.pocket_types.specs.declared.resolved.Root.{Root}
use Rattle.pocket_types.specs.declared.resolved.Root.TheVariants as root
use Rattle.pocket_types.specs.declared.resolved.Step.{Step}
use Rattle.pocket_types.specs.declared.resolved.Step.TheVariants as step
use Rattle.pocket_types.specs.declared.resolved.Prefix.{Prefix}
use Rattle.pocket_types.specs.declared.resolved.Leaf.{Leaf}
use Rattle.pocket_types.specs.declared.resolved.Leaf.TheVariants as leaf

abbrev pub same_root : Root → Root → Bool
same_root root.Home root.Home = true
same_root root.Auth root.Auth = true
same_root root.Body root.Body = true
same_root (root.Look a x) (root.Look b y) = bytes_eq a b && bytes_eq x y
same_root _ _ = false

abbrev pub same_step : Step → Step → Bool
same_step (step.Forward a) (step.Forward b) = bytes_eq a b
same_step (step.Back a f) (step.Back b g) = bytes_eq a b && bytes_eq f g
same_step (step.Item a) (step.Item b) = bytes_eq a b
same_step _ _ = false

abbrev pub same_prefix : Prefix → Prefix → Bool
same_prefix p q = same_root p.root q.root && pointwise same_step p.steps q.steps

-- the beginnings of a list, the shortest first, itself the last
abbrev pub beginnings : {X : Type 0} → List X → List (List X)
beginnings [] = [] ∷ []
beginnings (x ∷ xs) = [] ∷ map (λ ys. x ∷ ys) (beginnings xs)

-- a prefix with all that it begins with, the shortest first
abbrev pub begun : Prefix → List Prefix
begun p = map (λ steps. record { root = p.root; steps = steps }) (beginnings p.steps)

-- a list of prefixes with one more, unless it stands there
abbrev pub with_prefix : List Prefix → Prefix → List Prefix
with_prefix ps p = if list_any (same_prefix p) ps then ps else ps ++ p ∷ []

-- some prefixes with all that they begin with, each once, where it first stands
abbrev pub with_parents : List Prefix → List Prefix
with_parents ps = fold with_prefix [] (flat_map begun ps)

-- the prefix of one side of a comparison
abbrev pub prefixes_of : Leaf → List Prefix
prefixes_of (leaf.Of p field modifier) = p ∷ []
prefixes_of (leaf.ItemOf p) = p ∷ []
prefixes_of _ = []
