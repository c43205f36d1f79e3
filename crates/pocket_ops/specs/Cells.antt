-- The values of cells.
use Rattle.std.specs.Prelude.{ℕ, pos, List, [], ◌∷◌, map, length, Bool, Option, Some, None, if◌then◌else◌}
use Rattle.std.specs.Str.{str_to_ascii_lowercase}
use Rattle.pocket_types.specs.Json.{printed}
use Rattle.pocket_types.specs.Kinds.{is_multiple}
use Rattle.pocket_types.specs.declared.json.Jv.{Jv, out-Jv}
use Rattle.pocket_types.specs.declared.json.Jv.TheViews.{roll-Jv}
use Rattle.pocket_types.specs.declared.json.Member.{Member}
use Rattle.pocket_types.specs.declared.json.Jv.TheOpen as jv
use Rattle.pocket_types.specs.declared.json.Jv.TheOpen.{Jv-F}
use Rattle.pocket_types.specs.declared.moments.Moment.{Moment}
use Rattle.pocket_types.specs.declared.records.Cell.{Cell}
use Rattle.pocket_types.specs.declared.records.Cell.TheVariants as cell
use Rattle.pocket_types.specs.declared.records.Field.{Field}
use Rattle.pocket_types.specs.declared.values.Value.{Value}
use Rattle.pocket_types.specs.declared.values.Value.TheVariants as value
use Rattle.pocket_ops.specs.Dates.{date_text}

-- the items of a cell
abbrev pub items_of : Cell → List (List ℕ)
items_of (cell.Picks items) = items
items_of (cell.Refs ids) = ids
items_of _ = []

-- the JSON list of texts
abbrev pub texts_jv : List (List ℕ) → Jv
texts_jv texts = roll-Jv (jv.List (map (λ t. roll-Jv (jv.Text t)) texts))

-- the value of a cell's items, of which several may stand there or one
abbrev pub items_value : Bool → List (List ℕ) → Value
items_value several [] = value.Nothing
items_value several (item ∷ items) = if several then value.Text (printed (texts_jv (item ∷ items))) else value.Text item

-- the value of a date
abbrev pub date_value : Option Moment → Value
date_value None = value.Text []
date_value (Some m) = value.Text (date_text m)

-- the value of a JSON tree, by its outermost level
abbrev pub level_value : Jv → Jv-F Jv Member → Value
level_value tree jv.Null = value.Nothing
level_value tree (jv.Flag b) = value.Flag b
level_value tree (jv.Num n) = value.Num n
level_value tree (jv.Text t) = value.Text t
level_value tree (jv.List items) = value.Text (printed tree)
level_value tree (jv.Map members) = value.Text (printed tree)

-- the value of a JSON tree
abbrev pub tree_value : Jv → Value
tree_value tree = level_value tree (out-Jv tree)

-- the value of a field's cell
abbrev pub cell_value : Field → Cell → Value
cell_value f (cell.Text t) = value.Text t
cell_value f (cell.Num n) = value.Num n
cell_value f (cell.Flag b) = value.Flag b
cell_value f (cell.Date d) = date_value d
cell_value f (cell.Picks items) = items_value (is_multiple f.kind) items
cell_value f (cell.Json tree) = tree_value tree
cell_value f (cell.Refs ids) = items_value (is_multiple f.kind) ids

-- the count of a cell's items
abbrev pub count_value : Cell → Value
count_value c = value.Num (pos (length (items_of c)))

-- a value with A to Z of its text as a to z
abbrev pub lowered : Value → Value
lowered (value.Text t) = value.Text (str_to_ascii_lowercase t)
lowered v = v
