-- The fields of records.
use Rattle.std.specs.Prelude.{List, [], codes, find, zip, Option, if◌then◌else◌}
use Rattle.std.specs.Str.{bytes_eq}
use Rattle.pocket_types.specs.declared.ids.Id.{Id}
use Rattle.pocket_types.specs.declared.names.Name.{Name}
use Rattle.pocket_types.specs.declared.records.Cell.{Cell}
use Rattle.pocket_types.specs.declared.records.Cell.TheVariants as cell
use Rattle.pocket_types.specs.declared.records.Collection.{Collection}
use Rattle.pocket_types.specs.declared.records.Field.{Field}
use Rattle.pocket_types.specs.declared.records.Rec.{Rec}
use Rattle.pocket_types.specs.declared.values.Value.{Value}
use Rattle.pocket_types.specs.declared.values.Value.TheVariants as value
use Rattle.pocket_ops.specs.Dates.{date_text}

-- the first field of a name, with its cell
abbrev pub field_at : Collection → Rec → Name → Option (Field × Cell)
field_at c r name = find (λ x. bytes_eq x.0.name name) (zip c.fields r.cells)

-- the ids that a cell holds
abbrev pub ids_of : Cell → List Id
ids_of (cell.Refs ids) = ids
ids_of _ = []

-- the value under a name: one that every record has, or the value of the record's own field
abbrev pub built_in_or : Collection → Rec → Name → Value → Value
built_in_or c r name own =
    if bytes_eq name (codes "id") then value.Text r.id
    else (if bytes_eq name (codes "created") then value.Text (date_text r.created)
    else (if bytes_eq name (codes "updated") then value.Text (date_text r.updated)
    else (if bytes_eq name (codes "collectionName") then value.Text c.name
    else own)))
