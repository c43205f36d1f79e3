-- The JSON trees of cells, records, fields and collections.
use Rattle.std.specs.Prelude.{ℕ, List, [], ◌∷◌, ◌++◌, codes, map, Bool, true, if◌then◌else◌, ◌&&◌, not, nat_le, ℤ, pos, Option, Some, None}
use Rattle.pocket_types.specs.declared.json.Jv.{Jv}
use Rattle.pocket_types.specs.declared.json.Jv.TheViews.{roll-Jv}
use Rattle.pocket_types.specs.declared.json.Jv.TheOpen as jv
use Rattle.pocket_types.specs.declared.moments.Moment.{Moment}
use Rattle.pocket_types.specs.declared.records.Cell.{Cell}
use Rattle.pocket_types.specs.declared.records.Cell.TheVariants as cell
use Rattle.pocket_types.specs.declared.records.Kind.{Kind}
use Rattle.pocket_types.specs.declared.records.Kind.TheVariants as kind
use Rattle.pocket_types.specs.declared.records.Field.{Field}
use Rattle.pocket_types.specs.declared.records.Rule.{Rule}
use Rattle.pocket_types.specs.declared.records.Rule.TheVariants as rule
use Rattle.pocket_types.specs.declared.records.Collection.{Collection}
use Rattle.pocket_types.specs.declared.records.Rec.{Rec}
use Rattle.pocket_types.specs.Kinds.{most_of}
use Rattle.pocket_types.specs.Maps.{map_jv, put}
use Rattle.pocket_ops.specs.Cells.{texts_jv}
use Rattle.pocket_ops.specs.Dates.{date_text}

-- ---- trees

abbrev pub null_jv : Jv
null_jv = roll-Jv jv.Null

abbrev pub flag_jv : Bool → Jv
flag_jv b = roll-Jv (jv.Flag b)

abbrev pub num_jv : ℤ → Jv
num_jv n = roll-Jv (jv.Num n)

abbrev pub text_jv : List ℕ → Jv
text_jv t = roll-Jv (jv.Text t)

abbrev pub list_jv : List Jv → Jv
list_jv items = roll-Jv (jv.List items)

-- ---- cells

abbrev pub date_jv : Option Moment → Jv
date_jv None = text_jv []
date_jv (Some m) = text_jv (date_text m)

abbrev pub one_jv : List (List ℕ) → Jv
one_jv [] = text_jv []
one_jv (item ∷ items) = text_jv item

-- the items of a select or a relation: where at most one stands, its text or the empty text, else a list
abbrev pub items_jv : ℕ → List (List ℕ) → Jv
items_jv most items = if nat_le most 1 then one_jv items else texts_jv items

-- the tree of a cell of a field of this kind
abbrev pub cell_jv : Kind → Cell → Jv
cell_jv k (cell.Text t) = text_jv t
cell_jv k (cell.Num n) = num_jv n
cell_jv k (cell.Flag b) = flag_jv b
cell_jv k (cell.Date d) = date_jv d
cell_jv k (cell.Picks items) = items_jv (most_of k) items
cell_jv k (cell.Json tree) = tree
cell_jv k (cell.Refs ids) = items_jv (most_of k) ids

-- ---- records

-- the cells of a record under their fields' names, those of hidden fields only where they are wanted
abbrev pub put_cells : Bool → List Field → List Cell → List (List ℕ × Jv) → List (List ℕ × Jv)
put_cells hidden [] cells members = members
put_cells hidden (f ∷ fs) [] members = members
put_cells hidden (f ∷ fs) (cell ∷ cells) members =
    put_cells hidden fs cells (if f.hidden && not hidden then members else put f.name (cell_jv f.kind cell) members)

-- the dates of a record
abbrev pub date_members : Rec → List (List ℕ × Jv)
date_members r = (codes "created", text_jv (date_text r.created)) ∷ (codes "updated", text_jv (date_text r.updated)) ∷ []

-- the dates of a record, and its cells
abbrev pub rec_members : Bool → Collection → Rec → List (List ℕ × Jv)
rec_members hidden c r = put_cells hidden c.fields r.cells (date_members r)

-- a record as its row keeps it: its dates and all its cells
abbrev pub kept_jv : Collection → Rec → Jv
kept_jv c r = map_jv (rec_members true c r)

-- the members of a record as it is shown: its id and its collection's name, its dates, and its cells
abbrev pub shown_members : Bool → Collection → Rec → List (List ℕ × Jv)
shown_members hidden c r = put (codes "id") (text_jv r.id) (put (codes "collectionName") (text_jv c.name) (rec_members hidden c r))

-- a record as it is shown, with its hidden fields or without them
abbrev pub rec_jv : Collection → Rec → Bool → Jv
rec_jv c r hidden = map_jv (shown_members hidden c r)

-- ---- collections

abbrev pub rule_jv : Rule → Jv
rule_jv rule.Locked = null_jv
rule_jv rule.Free = text_jv []
rule_jv (rule.Filter t) = text_jv t

abbrev pub bound_jv : Option ℤ → Jv
bound_jv None = null_jv
bound_jv (Some n) = num_jv n

-- `unique` where at most one item stands
abbrev pub unique_where_one : ℕ → Bool → List (List ℕ × Jv)
unique_where_one most unique = if nat_le most 1 then (codes "unique", flag_jv unique) ∷ [] else []

-- a field with the options of its type, keys in byte order
abbrev pub field_members : Kind → Field → List (List ℕ × Jv)
field_members (kind.Text min max) f =
    (codes "hidden", flag_jv f.hidden) ∷ (codes "max", num_jv (pos max)) ∷ (codes "min", num_jv (pos min)) ∷ (codes "name", text_jv f.name)
    ∷ (codes "required", flag_jv f.required) ∷ (codes "type", text_jv (codes "text")) ∷ (codes "unique", flag_jv f.unique) ∷ []
field_members (kind.Number min max) f =
    (codes "hidden", flag_jv f.hidden) ∷ (codes "max", bound_jv max) ∷ (codes "min", bound_jv min) ∷ (codes "name", text_jv f.name)
    ∷ (codes "required", flag_jv f.required) ∷ (codes "type", text_jv (codes "number")) ∷ (codes "unique", flag_jv f.unique) ∷ []
field_members kind.Flag f =
    (codes "hidden", flag_jv f.hidden) ∷ (codes "name", text_jv f.name) ∷ (codes "required", flag_jv f.required) ∷ (codes "type", text_jv (codes "bool")) ∷ []
field_members (kind.Date min max) f =
    (codes "hidden", flag_jv f.hidden) ∷ (codes "max", date_jv max) ∷ (codes "min", date_jv min) ∷ (codes "name", text_jv f.name)
    ∷ (codes "required", flag_jv f.required) ∷ (codes "type", text_jv (codes "date")) ∷ (codes "unique", flag_jv f.unique) ∷ []
field_members (kind.Select values most) f =
    (codes "hidden", flag_jv f.hidden) ∷ (codes "maxSelect", num_jv (pos most)) ∷ (codes "name", text_jv f.name) ∷ (codes "required", flag_jv f.required)
    ∷ (codes "type", text_jv (codes "select")) ∷ unique_where_one most f.unique ++ (codes "values", texts_jv values) ∷ []
field_members (kind.Json max) f =
    (codes "hidden", flag_jv f.hidden) ∷ (codes "maxSize", num_jv (pos max)) ∷ (codes "name", text_jv f.name) ∷ (codes "required", flag_jv f.required)
    ∷ (codes "type", text_jv (codes "json")) ∷ []
field_members (kind.Relation target most cascade) f =
    (codes "cascadeDelete", flag_jv cascade) ∷ (codes "collection", text_jv target) ∷ (codes "hidden", flag_jv f.hidden) ∷ (codes "maxSelect", num_jv (pos most))
    ∷ (codes "name", text_jv f.name) ∷ (codes "required", flag_jv f.required) ∷ (codes "type", text_jv (codes "relation")) ∷ unique_where_one most f.unique

abbrev pub field_jv : Field → Jv
field_jv f = map_jv (field_members f.kind f)

abbrev pub type_text : Bool → List ℕ
type_text is_auth = if is_auth then codes "auth" else codes "base"

-- the members of a collection, keys in byte order
abbrev pub collection_members : Collection → List (List ℕ × Jv)
collection_members c =
    (codes "createRule", rule_jv c.create_rule) ∷ (codes "deleteRule", rule_jv c.delete_rule) ∷ (codes "fields", list_jv (map field_jv c.fields))
    ∷ (codes "listRule", rule_jv c.list_rule) ∷ (codes "name", text_jv c.name) ∷ (codes "type", text_jv (type_text c.is_auth))
    ∷ (codes "updateRule", rule_jv c.update_rule) ∷ (codes "viewRule", rule_jv c.view_rule) ∷ []

abbrev pub collection_jv : Collection → Jv
collection_jv c = map_jv (collection_members c)
