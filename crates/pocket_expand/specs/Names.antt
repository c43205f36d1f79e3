-- The names of an `expand` text, as a tree.
use Rattle.std.specs.Prelude.{ℕ, zero, suc, ◌==◌, List, [], ◌∷◌, map, filter_map, fold, Option, Some, None, option_map, option_and_then, if◌then◌else◌}
use Rattle.std.specs.BTreeSet.{insert_key}
use Rattle.std.specs.Cmp.Lexicographic.{slice_cmp}
use Rattle.std.specs.List.{slice_split}
use Rattle.std.specs.Option.{option_map_or}
use Rattle.std.specs.Ordering.{nat_cmp}
use Rattle.std.specs.Str.{bytes_eq}
use Rattle.pocket_types.specs.Names.{is_name}
use Rattle.pocket_types.specs.declared.names.Name.{Name}
use Rattle.pocket_resolve.specs.Names.{cut_at_via}
use Rattle.pocket_expand.specs.declared.names.Branch.{Branch, roll-Branch}
use Rattle.pocket_expand.specs.declared.names.Lead.{Lead}
use Rattle.pocket_expand.specs.declared.names.Lead.TheVariants as lead
use Rattle.pocket_expand.specs.declared.names.Names.{Names}

-- ---- paths

-- names one behind another
abbrev pub NamePath : Type 0
NamePath = List (List ℕ)

-- the paths of a text: a list between commas, the names of each between dots
abbrev pub paths_in : List ℕ → List NamePath
paths_in text = map (slice_split (λ b. b == 46)) (slice_split (λ b. b == 44) text)

-- the first name of a path
abbrev pub head_of : NamePath → Option (List ℕ)
head_of [] = None
head_of (name ∷ names) = Some name

-- what follows a name in a path that begins with it
abbrev pub behind_name : List ℕ → NamePath → Option NamePath
behind_name name [] = None
behind_name name (first ∷ names) = if bytes_eq first name then Some names else None

-- these names with one more, in byte order and each once
abbrev pub with_name : List (List ℕ) → List ℕ → List (List ℕ)
with_name names name = insert_key (slice_cmp nat_cmp) names name

-- the names with which paths begin, in byte order and each once
abbrev pub first_names : List NamePath → List (List ℕ)
first_names paths = fold with_name [] (filter_map head_of paths)

-- what follows a name in the paths that begin with it
abbrev pub paths_behind : List NamePath → List ℕ → List NamePath
paths_behind paths name = filter_map (behind_name name) paths

-- the names with which paths begin, each with what follows it in the paths that begin with it
abbrev pub grouped : List NamePath → List (List ℕ × List NamePath)
grouped paths = map (λ name. (name, paths_behind paths name)) (first_names paths)

-- ---- what a name may lead to

abbrev pub name_in : List ℕ → Option Name
name_in text = if is_name text then Some text else None

-- a back relation, by its two parts
abbrev pub back_to : List ℕ × List ℕ → Option Lead
back_to parts = option_and_then (λ from. option_map (lead.Back from) (name_in parts.1)) (name_in parts.0)

-- what a name may lead to: `X_via_F`, cut at its first `_via_`, to the records of X whose relation F holds a record, any other name to
-- what the record's relation of this name holds, and what is no name to nothing
abbrev pub lead_of : List ℕ → Option Lead
lead_of name = option_map_or (λ parts. back_to parts) (cut_at_via name) (option_map lead.Forward (name_in name))

-- ---- the tree

-- a name with the tree of what follows it, where it may lead anywhere
abbrev pub branch_of : (List NamePath → List Branch) → List ℕ × List NamePath → Option Branch
branch_of tree (name, behind) = option_map (λ l. roll-Branch (record { name = name; lead = l; below = tree behind })) (lead_of name)

-- the tree of paths, of which so many names count: paths that begin with a name share its branch
abbrev pub tree_of : ℕ → List NamePath → List Branch
tree_of zero paths = []
tree_of (suc depth) paths = filter_map (branch_of (tree_of depth)) (grouped paths)

-- the names of a text, of which six count in each path; no text has none
abbrev pub names_of : Option (List ℕ) → Names
names_of None = record { branches = [] }
names_of (Some text) = record { branches = tree_of 6 (paths_in text) }
