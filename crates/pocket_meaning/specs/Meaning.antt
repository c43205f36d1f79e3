-- When a filter holds of a record.
use Rattle.std.specs.Prelude.{Bool, true, false, ◌&&◌, ◌||◌, ◌++◌}
use Rattle.std.specs.List.{list_any, list_all}
use Rattle.pocket_types.specs.declared.expr.Op.{Op}
use Rattle.pocket_types.specs.declared.names.Name.{Name}
use Rattle.pocket_types.specs.declared.records.Rec.{Rec}
use Rattle.pocket_types.specs.declared.requests.Ask.{Ask}
use Rattle.pocket_types.specs.declared.resolved.Leaf.{Leaf}
use Rattle.pocket_types.specs.declared.resolved.Prefix.{Prefix}
use Rattle.pocket_types.specs.declared.resolved.Resolved.{Resolved, fold-Resolved}
use Rattle.pocket_types.specs.declared.resolved.Resolved.TheOpen.{Resolved-F}
use Rattle.pocket_types.specs.declared.resolved.Resolved.TheOpen as filter
use Rattle.pocket_types.specs.declared.world.World.{World}
use Rattle.pocket_ops.specs.Comparison.{compare_values}
use Rattle.pocket_meaning.specs.Members.{Member}
use Rattle.pocket_types.specs.Paths.{prefixes_of}
use Rattle.pocket_meaning.specs.Prefixes.{any_prefixes}
use Rattle.pocket_meaning.specs.Sights.{Sight, sight, value_of}
use Rattle.pocket_meaning.specs.Choices.{chosen, choices}

-- a comparison, where each prefix has chosen a member
abbrev pub test_under : Sight → (Prefix → Member) → Leaf → Op → Leaf → Bool
test_under s c left op right = compare_values op (value_of s c left) (value_of s c right)

-- a comparison under every choice of its own two sides' prefixes
abbrev pub test_always : Sight → Leaf → Op → Leaf → Bool
test_always s left op right = list_all (λ c. test_under s (chosen c) left op right) (choices s (prefixes_of left ++ prefixes_of right))

-- one level of a filter: an any-match comparison under this choice, a plain one under every choice of its own
abbrev pub truth_of : Sight → (Prefix → Member) → Resolved-F Bool → Bool
truth_of s c (filter.Test left true op right) = test_under s c left op right
truth_of s c (filter.Test left false op right) = test_always s left op right
truth_of s c (filter.And a b) = a && b
truth_of s c (filter.Or a b) = a || b

-- a filter, where each prefix has chosen a member
abbrev pub true_under : Sight → (Prefix → Member) → Resolved → Bool
true_under s c = fold-Resolved Bool (truth_of s c)

-- some choice for the prefixes of all any-match comparisons makes the filter true
abbrev pub true_in : Sight → Resolved → Bool
true_in s f = list_any (λ c. true_under s (chosen c) f) (choices s (any_prefixes f))

-- a filter holds of a record of the collection `home`, for a request in a world
unfoldable pub holds : World → Ask → Name → Rec → Resolved → Bool
holds w ask home rec f = true_in (sight w ask home rec) f
