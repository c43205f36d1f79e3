-- What the reads of tables find.
use Rattle.std.specs.Prelude.{◌≡◌, ℕ, Bool, true, false, List, [], filter, find, length, sum_by, Option, Some, None, All}
use Rattle.std.specs.List.{list_any}
use Rattle.std.specs.Option.{option_map_or}
use Rattle.std.specs.Str.{bytes_eq}
use Rattle.pocket_types.specs.Kinds.{is_multiple}
use Rattle.pocket_types.specs.Order.{is_before}
use Rattle.pocket_types.specs.declared.expr.Op.TheVariants as op
use Rattle.pocket_types.specs.declared.ids.Id.{Id}
use Rattle.pocket_types.specs.declared.names.Name.{Name}
use Rattle.pocket_types.specs.declared.records.Collection.{Collection}
use Rattle.pocket_types.specs.declared.records.Rec.{Rec}
use Rattle.pocket_types.specs.declared.values.Value.{Value}
use Rattle.pocket_types.specs.declared.values.Value.TheVariants as value
use Rattle.pocket_types.specs.declared.world.World.{World}
use Rattle.pocket_ops.specs.Cells.{cell_value}
use Rattle.pocket_ops.specs.Comparison.{compare_values}
use Rattle.pocket_ops.specs.Fields.{built_in_or, field_at, ids_of}
use Rattle.pocket_ops.specs.Lengths.{row_len}
use Rattle.pocket_tables.specs.Worlds.{collection_at, recs_at}

-- ---- the next record

-- whether a record's id is above this one; each is where there is none
abbrev pub is_above : Option Id → Rec → Bool
is_above None r = true
is_above (Some id) r = is_before id r.id

-- of records that rise by id, the one with the least id above this one
abbrev pub first_above : Option Id → List Rec → Option Rec
first_above after recs = find (is_above after) recs

-- ---- fields

-- whether a record's field holds an id
abbrev pub holds_id : Collection → Name → Id → Rec → Bool
holds_id c field id r = option_map_or (λ x. list_any (λ held. bytes_eq held id) (ids_of x.1)) (field_at c r field) false

-- the value of a record's field, one of its own or one that every record has; Nothing where its collection lacks it
abbrev pub value_at : Collection → Rec → Name → Value
value_at c r name = built_in_or c r name (option_map_or (λ x. cell_value x.0 x.1) (field_at c r name) value.Nothing)

-- whether a record's field compares equal to a value
abbrev pub has_value : Collection → Name → Value → Rec → Bool
has_value c field v r = compare_values op.Eq (value_at c r field) v

-- a field of this name holds one item at most
abbrev pub IsSingle : Collection → Name → Type 0
IsSingle c name = All (λ f. f.name ≡ name → is_multiple f.kind ≡ false) c.fields

-- ---- which records

-- the records of a collection that pass its test, by id
abbrev pub passing : World → Name → (Collection → Rec → Bool) → List Rec
passing w name test = option_map_or (λ c. filter (test c) (recs_at w name)) (collection_at w name) []

-- the records of a collection whose field holds an id
abbrev pub referrers : World → Name → Name → Id → List Rec
referrers w name field id = passing w name (λ c. holds_id c field id)

-- the records of a collection whose field compares equal to a value
abbrev pub matching : World → Name → Name → Value → List Rec
matching w name field v = passing w name (λ c. has_value c field v)

-- ---- how many, and how long

-- the number of all records
abbrev pub records_of : World → ℕ
records_of w = sum_by (λ s. length s.recs) w.shelves

-- the bytes of all row texts
abbrev pub bytes_of : World → ℕ
bytes_of w = sum_by (λ s. sum_by (row_len s.collection) s.recs) w.shelves
