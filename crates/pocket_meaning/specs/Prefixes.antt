-- The prefixes on which a filter's truth turns.
use Rattle.std.specs.Prelude.{true, false, List, [], ◌++◌}
use Rattle.pocket_types.specs.Paths.{prefixes_of}
use Rattle.pocket_types.specs.declared.resolved.Prefix.{Prefix}
use Rattle.pocket_types.specs.declared.resolved.Resolved.{Resolved, fold-Resolved}
use Rattle.pocket_types.specs.declared.resolved.Resolved.TheOpen.{Resolved-F}
use Rattle.pocket_types.specs.declared.resolved.Resolved.TheOpen as filter

-- the prefixes of a filter's any-match comparisons, one level of the filter at a time
abbrev pub any_prefixes_of : Resolved-F (List Prefix) → List Prefix
any_prefixes_of (filter.Test left true op right) = prefixes_of left ++ prefixes_of right
any_prefixes_of (filter.Test left false op right) = []
any_prefixes_of (filter.And a b) = a ++ b
any_prefixes_of (filter.Or a b) = a ++ b

-- the prefixes of a filter's any-match comparisons
abbrev pub any_prefixes : Resolved → List Prefix
any_prefixes = fold-Resolved (List Prefix) any_prefixes_of
