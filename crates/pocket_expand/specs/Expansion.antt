-- Records with what stands under the names of a tree.
use Rattle.std.specs.Prelude.{ℕ, Bool, true, List, [], ◌∷◌, take, fold, map, filter_map, codes, Option, Some, None, if◌then◌else◌, option_map, option_and_then}
use Rattle.pocket_types.specs.Callers.{is_admin}
use Rattle.pocket_types.specs.Kinds.{is_multiple, target_of}
use Rattle.pocket_types.specs.Maps.{map_jv, put}
use Rattle.pocket_types.specs.declared.json.Jv.{Jv}
use Rattle.pocket_types.specs.declared.records.Cell.{Cell}
use Rattle.pocket_types.specs.declared.records.Collection.{Collection}
use Rattle.pocket_types.specs.declared.records.Field.{Field}
use Rattle.pocket_types.specs.declared.records.Rec.{Rec}
use Rattle.pocket_types.specs.declared.requests.Ask.{Ask}
use Rattle.pocket_types.specs.declared.requests.Caller.{Caller}
use Rattle.pocket_types.specs.declared.world.World.{World}
use Rattle.pocket_ops.specs.Trees.{list_jv, shown_members}
use Rattle.pocket_meaning.specs.Members.{Member}
use Rattle.pocket_meaning.specs.Members as member
use Rattle.pocket_ops.specs.Fields.{field_at}
use Rattle.pocket_meaning.specs.Related.{held, holders}
use Rattle.pocket_plan.specs.Cutting.{open_collection, open_rec}
use Rattle.pocket_gate.specs.Seen.{seen_world}
use Rattle.pocket_expand.specs.declared.names.Branch.{Branch, Branch-F, fold-Branch}
use Rattle.pocket_expand.specs.declared.names.Lead.{Lead}
use Rattle.pocket_expand.specs.declared.names.Lead.TheVariants as lead
use Rattle.pocket_expand.specs.declared.names.Names.{Names}

-- ---- related records

-- the records to which a name leads, and whether several may stand there
pub record Related : Type 0 where
  pub several : Bool
  pub members : List Member

-- a relation: the records that it holds, in the held order
abbrev pub of_relation : World → Field × Cell → Option Related
of_relation seen (f, cell) = option_map (λ target. record { several = is_multiple f.kind; members = held seen (f, cell) }) (target_of f.kind)

-- what a name leads to from a record; of a back relation the first 1,000 records count, by id
abbrev pub related_by : World → Collection → Rec → Lead → Option Related
related_by seen c r (lead.Forward name) = option_and_then (of_relation seen) (field_at c r name)
related_by seen c r (lead.Back from field) = Some (record { several = true; members = take 1000 (holders seen from field c r) })

-- ---- JSON

-- related records as JSON: none has no key, one of a relation that holds at most one is an object, all else a list
abbrev pub related_jv : Bool → List Jv → Option Jv
related_jv several [] = None
related_jv several (item ∷ items) = Some (if several then list_jv (item ∷ items) else item)

-- one more member of a map, where it was found
abbrev pub with_found : List (List ℕ × Jv) → Option (List ℕ × Jv) → List (List ℕ × Jv)
with_found members None = members
with_found members (Some x) = put x.0 x.1 members

-- what was found under names, in the order of a map
abbrev pub in_order : List (List ℕ × Jv) → List (List ℕ × Jv)
in_order found = fold (λ members x. put x.0 x.1 members) [] found

-- the key `expand`, where something stands there
abbrev pub put_expand : List (List ℕ × Jv) → List (List ℕ × Jv) → List (List ℕ × Jv)
put_expand [] members = members
put_expand (x ∷ xs) members = put (codes "expand") (map_jv (x ∷ xs)) members

-- a record of what its caller sees, with what was found under its names
abbrev pub rec_with : Collection → Rec → List (List ℕ × Jv) → Jv
rec_with c r found = map_jv (put_expand (in_order found) (shown_members true c r))

-- ---- the tree

-- what stands under a name in a record, where anything does
abbrev pub Expands : Type 0
Expands = Collection → Rec → Option (List ℕ × Jv)

-- what stands under several names
abbrev pub all_under : List Expands → Collection → Rec → List (List ℕ × Jv)
all_under names c r = filter_map (λ under. under c r) names

-- a related record, with what stands under the names below
abbrev pub member_jv : List Expands → Member → Option Jv
member_jv below (member.Record c r) = Some (rec_with c r (all_under below c r))
member_jv below _ = None

-- what stands under a name, as it is known what stands under those below
abbrev pub branch_step : World → Branch-F Expands → Expands
branch_step seen b c r =
    option_and_then
    (λ related. option_map (λ tree. (b.name, tree)) (related_jv related.several (filter_map (member_jv b.below) related.members)))
    (related_by seen c r b.lead)

-- what stands under the name of a branch
unfoldable pub expands : World → Branch → Expands
expands seen = fold-Branch Expands (branch_step seen)

-- a record of what its caller sees, with its expansion by a tree of names
abbrev pub expanded_jv : World → List Branch → Collection → Rec → Jv
expanded_jv seen branches c r = rec_with c r (all_under (map (expands seen) branches) c r)

-- ---- for a caller

-- a collection as a caller sees it: the administrator sees it whole
abbrev pub shown_collection : Caller → Collection → Collection
shown_collection who c = if is_admin who then c else open_collection c

-- a record as a caller sees it
abbrev pub shown_rec : Caller → Collection → Rec → Rec
shown_rec who c r = if is_admin who then r else open_rec c r

-- A record as its caller sees it, with its expansion by names. Of the world it takes what the caller sees alone; whether the view rule
-- admits the record itself isn't asked.
abbrev pub expansion_by : World → Ask → Collection → Rec → Names → Jv
expansion_by w ask c r names = expanded_jv (seen_world w ask) names.branches (shown_collection ask.caller c) (shown_rec ask.caller c r)
