-- Paths over relations: the steps of a path, and the field at its end.
use Rattle.std.specs.Prelude.{ℕ, Bool, true, false, ◌&&◌, not, List, [], ◌∷◌, ◌++◌, length, codes, nat_le, Option, Some, None, is_some, Result, Ok, Err, if◌then◌else◌}
use Rattle.std.specs.List.{list_any}
use Rattle.std.specs.Option.{option_map_or}
use Rattle.std.specs.Str.{bytes_eq}
use Rattle.pocket_types.specs.Kinds.{is_multiple, target_of}
use Rattle.pocket_types.specs.declared.expr.Part.{Part}
use Rattle.pocket_types.specs.declared.faults.ResolveFault.{ResolveFault}
use Rattle.pocket_types.specs.declared.faults.ResolveFault.TheVariants as fault
use Rattle.pocket_types.specs.declared.names.Name.{Name}
use Rattle.pocket_types.specs.declared.records.Collection.{Collection}
use Rattle.pocket_types.specs.declared.records.Field.{Field}
use Rattle.pocket_types.specs.declared.records.Kind.{Kind}
use Rattle.pocket_types.specs.declared.resolved.Leaf.{Leaf}
use Rattle.pocket_types.specs.declared.resolved.Leaf.TheVariants as leaf
use Rattle.pocket_types.specs.declared.resolved.Modifier.TheVariants as modifier
use Rattle.pocket_types.specs.declared.resolved.Prefix.{Prefix}
use Rattle.pocket_types.specs.declared.resolved.Step.{Step}
use Rattle.pocket_types.specs.declared.resolved.Step.TheVariants as step
use Rattle.pocket_types.specs.Chains.{◌>>=◌, or_refuse, refuse}
use Rattle.pocket_resolve.specs.Fields.{collection_named, field_named, caller_field, has_letters}
use Rattle.pocket_resolve.specs.Names.{is_built_in, cut_at_via}
use Rattle.pocket_resolve.specs.declared.ends.Reading.{Reading}
use Rattle.pocket_resolve.specs.declared.ends.Reading.TheVariants.{As, Items}

-- what one side of a comparison is resolved against
pub record Setting : Type 0 where
  pub collections : List Collection
  -- the collection of the records that the filter is asked of
  pub home : Name
  -- whether the filter is a client's who isn't the administrator
  pub guarded : Bool
  -- the number of the operand, counted from 0 from the left
  pub operand : ℕ
  -- whether the operator has a `?`
  pub any : Bool

-- where a path stands: at a record of a collection, at the caller's record, or at one of a collection that isn't there
pub data Place : Type 0 where
  Of : Collection → Place
  Caller : Place
  Nowhere : Place

abbrev pub place_named : List Collection → List ℕ → Place
place_named collections name = option_map_or Of (collection_named collections name) Nowhere

abbrev pub has_built_in : Place → List ℕ → Bool
has_built_in Nowhere name = false
has_built_in _ name = is_built_in name

-- a field of the records of a place
abbrev pub field_at : List Collection → Place → List ℕ → Option Field
field_at collections (Of c) name = field_named c name
field_at collections Caller name = caller_field collections name
field_at collections Nowhere name = None

-- whether records of the place may stand in a collection
abbrev pub may_stand_in : List Collection → Place → Name → Bool
may_stand_in collections (Of c) name = bytes_eq c.name name
may_stand_in collections Caller name = list_any (λ c. c.is_auth && bytes_eq c.name name) collections
may_stand_in collections Nowhere name = false

-- whether a field is a relation to records of the place
abbrev pub leads_to : List Collection → Place → Kind → Bool
leads_to collections place kind = option_map_or (may_stand_in collections place) (target_of kind) false

-- ---- steps

abbrev pub max_steps : ℕ
max_steps = 6

-- a suffix has no place here
abbrev pub no_suffix : Setting → Part → Result (Unit {0}) ResolveFault
no_suffix s part = refuse (is_some part.suffix) (fault.BadModifier s.operand)

-- a client's filter sees no hidden field
abbrev pub may_see : Setting → Field → Result (Unit {0}) ResolveFault
may_see s field = refuse (s.guarded && field.hidden) (fault.HiddenField field.name)

-- what every step is refused for, once its field is found: a suffix, six steps before it, a hidden field
unfoldable pub may_step : Setting → ℕ → Part → Field → Result (Unit {0}) ResolveFault
may_step s taken part field = do
  _ ← no_suffix s part
  _ ← refuse (nat_le max_steps taken) fault.TooManySteps
  may_see s field

-- a relation of the place: to the records that it holds
unfoldable pub forward : Setting → Place → ℕ → Part → Result (Step × Place) ResolveFault
forward s place taken part = do
  _ ← refuse (has_built_in place part.name) (fault.NotRelation part.name)
  field ← or_refuse (field_at s.collections place part.name) (fault.NoField part.name)
  target ← or_refuse (target_of field.kind) (fault.NotRelation part.name)
  _ ← may_step s taken part field
  Ok (step.Forward field.name, place_named s.collections target)

-- the relation `name` of the collection `from` to the records of the place, with its collection
unfoldable pub back_relation : Setting → Place → List ℕ → List ℕ → Result (Collection × Field) ResolveFault
back_relation s place from name = do
  collection ← or_refuse (collection_named s.collections from) (fault.NoCollection from)
  _ ← refuse (is_built_in name) (fault.NotRelation name)
  field ← or_refuse (field_named collection name) (fault.NoField name)
  _ ← refuse (not (leads_to s.collections place field.kind)) (fault.NotRelation name)
  Ok (collection, field)

-- a back relation: to the records of its collection that hold this one
unfoldable pub backward : Setting → Place → ℕ → Part → List ℕ → List ℕ → Result (Step × Place) ResolveFault
backward s place taken part from name = do
  found ← back_relation s place from name
  _ ← may_step s taken part found.1
  Ok (step.Back found.0.name found.1.name, Of found.0)

-- a part before the last. Behind a relation to a collection that isn't there stands nothing.
unfoldable pub one_step : Setting → Place → ℕ → Part → Result (Step × Place) ResolveFault
one_step s Nowhere taken part = Err (fault.NoField part.name)
one_step s place taken part =
    option_map_or (λ via. backward s place taken part via.0 via.1) (cut_at_via part.name) (forward s place taken part)

-- ---- the last part

abbrev pub only_if : {A : Type 0} → Bool → A → Option A
only_if true x = Some x
only_if false x = None

-- the modifiers of fields, and what each stands on. Under a `?` a multiple field is read item by item.
unfoldable pub reading_of : Bool → Kind → Option (List ℕ) → Option Reading
reading_of any kind None = Some (if any && is_multiple kind then Items else As modifier.Plain)
reading_of any kind (Some suffix) =
    if bytes_eq suffix (codes "length") then only_if (is_multiple kind) (As modifier.Length)
    else (if bytes_eq suffix (codes "each") then only_if (is_multiple kind) Items
    else (if bytes_eq suffix (codes "lower") then only_if (has_letters kind) (As modifier.Lower)
    else None))

-- the name of a field at the end of a path, and how it is read
abbrev pub End : Type 0
End = Name × Reading

-- what every record has has no modifiers
unfoldable pub built_in_end : Setting → Part → Result End ResolveFault
built_in_end s part = do
  _ ← no_suffix s part
  Ok (part.name, As modifier.Plain)

-- a field at the end
unfoldable pub field_end : Setting → Place → Part → Result End ResolveFault
field_end s place part = do
  field ← or_refuse (field_at s.collections place part.name) (fault.NoField part.name)
  reading ← or_refuse (reading_of s.any field.kind part.suffix) (fault.BadModifier s.operand)
  _ ← may_see s field
  Ok (field.name, reading)

-- a back relation leads on, and is no field
unfoldable pub back_end : Setting → Place → Part → List ℕ → List ℕ → Result End ResolveFault
back_end s place part from name = do
  _ ← back_relation s place from name
  Err (fault.NoField part.name)

-- the last part
unfoldable pub path_end : Setting → Place → Part → Result End ResolveFault
path_end s Nowhere part = Err (fault.NoField part.name)
path_end s place part =
    option_map_or (λ via. back_end s place part via.0 via.1) (cut_at_via part.name)
    (if is_built_in part.name then built_in_end s part else field_end s place part)

-- ---- whole paths

abbrev pub with_step : Prefix → Step → Prefix
with_step prefix step = record { root = prefix.root; steps = prefix.steps ++ step ∷ [] }

-- a field of the records of a prefix, as it is read
abbrev pub leaf_read : Prefix → Name → Reading → Leaf
leaf_read prefix name (As modifier) = leaf.Of prefix name modifier
leaf_read prefix name Items = leaf.ItemOf (with_step prefix (step.Item name))

-- A path from a place on, behind the part of a name: each part but the last is a step. Where none stands a field is wanting.
unfoldable pub along : Setting → List ℕ → Place → Prefix → List Part → Result Leaf ResolveFault
along s behind place prefix [] = Err (fault.NoField behind)
along s behind place prefix (part ∷ []) = do
  end ← path_end s place part
  Ok (leaf_read prefix end.0 end.1)
along s behind place prefix (part ∷ next ∷ parts) = do
  taken ← one_step s place (length prefix.steps) part
  along s part.name taken.1 (with_step prefix taken.0) (next ∷ parts)
