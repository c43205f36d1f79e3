-- What truth and prefixes are at each layer of a filter.
use Rattle.std.proofs.Common.{◌≡◌, List, [], ◌++◌, ap, ◌∙◌, Bool, true, false, ◌&&◌, ◌||◌, ◌∷◌}
use Rattle.std.specs.List.{list_any}
use Rattle.pocket_types.specs.Inductions.{resolved_test, resolved_and, resolved_or}
use Rattle.pocket_types.specs.Paths.{prefixes_of}
use Rattle.pocket_types.specs.declared.expr.Op.{Op}
use Rattle.pocket_types.specs.declared.resolved.Leaf.{Leaf}
use Rattle.pocket_types.specs.declared.resolved.Prefix.{Prefix}
use Rattle.pocket_types.specs.declared.resolved.Resolved.{Resolved}
use Rattle.pocket_types.specs.declared.resolved.Resolved.TheVariants as made
use Rattle.pocket_meaning.specs.Members.{Member}
use Rattle.pocket_meaning.specs.Prefixes.{any_prefixes, any_prefixes_of}
use Rattle.pocket_meaning.specs.Sights.{Sight}
use Rattle.pocket_meaning.specs.Choices.{chosen, choices}
use Rattle.pocket_meaning.specs.Carrying.{sides_of, sides_in}
use Rattle.pocket_meaning.specs.Meaning.{test_under, test_always, truth_of, true_under, true_in}
use Rattle.pocket_meaning.proofs.MeaningLemmas.{list_any-one}

pub true-any : (s : Sight) (c : Prefix → Member) (l : Leaf) (o : Op) (r : Leaf) → true_under s c (made.Test l true o r) ≡ test_under s c l o r
true-any s c l o r = resolved_test Bool (truth_of s c) l true o r

pub true-plain : (s : Sight) (c : Prefix → Member) (l : Leaf) (o : Op) (r : Leaf) → true_under s c (made.Test l false o r) ≡ test_always s l o r
true-plain s c l o r = resolved_test Bool (truth_of s c) l false o r

pub true-and : (s : Sight) (c : Prefix → Member) (a b : Resolved) → true_under s c (made.And a b) ≡ (true_under s c a && true_under s c b)
true-and s c a b = resolved_and Bool (truth_of s c) a b

pub true-or : (s : Sight) (c : Prefix → Member) (a b : Resolved) → true_under s c (made.Or a b) ≡ (true_under s c a || true_under s c b)
true-or s c a b = resolved_or Bool (truth_of s c) a b

pub prefixes-any : (l : Leaf) (o : Op) (r : Leaf) → any_prefixes (made.Test l true o r) ≡ prefixes_of l ++ prefixes_of r
prefixes-any l o r = resolved_test (List Prefix) any_prefixes_of l true o r

pub prefixes-plain : (l : Leaf) (o : Op) (r : Leaf) → any_prefixes (made.Test l false o r) ≡ []
prefixes-plain l o r = resolved_test (List Prefix) any_prefixes_of l false o r

pub prefixes-and : (a b : Resolved) → any_prefixes (made.And a b) ≡ any_prefixes a ++ any_prefixes b
prefixes-and a b = resolved_and (List Prefix) any_prefixes_of a b

pub prefixes-or : (a b : Resolved) → any_prefixes (made.Or a b) ≡ any_prefixes a ++ any_prefixes b
prefixes-or a b = resolved_or (List Prefix) any_prefixes_of a b

pub sides-test : (l : Leaf) (a : Bool) (o : Op) (r : Leaf) → sides_of (made.Test l a o r) ≡ l ∷ r ∷ []
sides-test l a o r = resolved_test (List Leaf) sides_in l a o r

pub sides-and : (a b : Resolved) → sides_of (made.And a b) ≡ sides_of a ++ sides_of b
sides-and a b = resolved_and (List Leaf) sides_in a b

pub sides-or : (a b : Resolved) → sides_of (made.Or a b) ≡ sides_of a ++ sides_of b
sides-or a b = resolved_or (List Leaf) sides_in a b

-- a filter without any-match prefixes has exactly one choice
pub one_choice : (s : Sight) (f : Resolved) → any_prefixes f ≡ [] → choices s (any_prefixes f) ≡ [] ∷ []
one_choice s f none = ap (choices s) none

pub true_in-plain : (s : Sight) (f : Resolved) → any_prefixes f ≡ [] → true_in s f ≡ true_under s (chosen []) f
true_in-plain s f none = ap (list_any (λ c. true_under s (chosen c) f)) (one_choice s f none) ∙ list_any-one (λ c. true_under s (chosen c) f) []
