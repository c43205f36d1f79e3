-- The values of cells, fields, items and pairs.
use Rattle.std.specs.Prelude.{ℕ, List, Option, codes, find, is_some}
use Rattle.std.specs.Option.{option_map_or}
use Rattle.std.specs.Str.{bytes_eq}
use Rattle.pocket_types.specs.declared.names.Name.{Name}
use Rattle.pocket_types.specs.declared.records.Cell.{Cell}
use Rattle.pocket_types.specs.declared.records.Collection.{Collection}
use Rattle.pocket_types.specs.declared.records.Field.{Field}
use Rattle.pocket_types.specs.declared.records.Rec.{Rec}
use Rattle.pocket_types.specs.declared.requests.Context.{Context}
use Rattle.pocket_types.specs.declared.requests.Context.TheVariants as context
use Rattle.pocket_types.specs.declared.requests.Method.{Method}
use Rattle.pocket_types.specs.declared.requests.Method.TheVariants as method
use Rattle.pocket_types.specs.declared.requests.Pair.{Pair}
use Rattle.pocket_types.specs.declared.resolved.Modifier.{Modifier}
use Rattle.pocket_types.specs.declared.resolved.Modifier.TheVariants as modifier
use Rattle.pocket_types.specs.declared.values.Value.{Value}
use Rattle.pocket_types.specs.declared.values.Value.TheVariants as value
use Rattle.pocket_ops.specs.Cells.{cell_value, count_value, lowered}
use Rattle.pocket_ops.specs.Fields.{built_in_or, field_at}
use Rattle.pocket_meaning.specs.Members.{Member}
use Rattle.pocket_meaning.specs.Members as member

-- a cell under a modifier: the count of its items, its text in lower case, or its value
abbrev pub modified : Modifier → Field × Cell → Value
modified modifier.Length (field, cell) = count_value cell
modified modifier.Lower (field, cell) = lowered (cell_value field cell)
modified _ (field, cell) = cell_value field cell

-- a field of a record: one that every record has, or one of its own, with its cell where the record has it; else Nothing
abbrev pub value_among : Collection → Rec → Name → Option (Field × Cell) → Modifier → Value
value_among c r name own modifier = built_in_or c r name (option_map_or (modified modifier) own value.Nothing)

-- a field of a record; Nothing where its collection lacks it
abbrev pub field_value : Collection → Rec → Name → Modifier → Value
field_value c r name modifier = value_among c r name (field_at c r name) modifier

-- a field of a member; Nothing of all but records
abbrev pub member_value : Member → Name → Modifier → Value
member_value (member.Record c r) name modifier = field_value c r name modifier
member_value _ name modifier = value.Nothing

-- the text of an item; Nothing of all else
abbrev pub item_value : Member → Value
item_value (member.Item text) = value.Text text
item_value _ = value.Nothing

-- the text of a context
abbrev pub context_text : Context → List ℕ
context_text context.Default = codes "default"
context_text context.Realtime = codes "realtime"

-- the text of a method
abbrev pub method_text : Method → List ℕ
method_text method.Get = codes "GET"
method_text method.Post = codes "POST"
method_text method.Patch = codes "PATCH"
method_text method.Put = codes "PUT"
method_text method.Delete = codes "DELETE"

-- the first pair of a name: its value, in lower case or not, or whether it is there
abbrev pub pair_value : List Pair → List ℕ → Modifier → Value
pair_value pairs name modifier.Isset = value.Flag (is_some (find (λ x. bytes_eq x.name name) pairs))
pair_value pairs name modifier.Lower = option_map_or (λ x. lowered (value.Text x.value)) (find (λ x. bytes_eq x.name name) pairs) value.Nothing
pair_value pairs name _ = option_map_or (λ x. value.Text x.value) (find (λ x. bytes_eq x.name name) pairs) value.Nothing
