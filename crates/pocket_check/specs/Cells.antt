-- The cells that values of JSON are.
use Rattle.std.specs.Prelude.{ℕ, ℤ, pos, Bool, true, false, List, [], ◌∷◌, filter, map, Option, Some, None, option_map, option_and_then, if◌then◌else◌}
use Rattle.std.specs.List.{list_all}
use Rattle.std.specs.Option.{option_map_or}
use Rattle.pocket_types.specs.Kinds.{is_multiple}
use Rattle.pocket_types.specs.Lists.{once}
use Rattle.pocket_types.specs.Names.{is_id}
use Rattle.pocket_types.specs.declared.json.Jv.{Jv, out-Jv}
use Rattle.pocket_types.specs.declared.json.Jv.TheOpen as jv
use Rattle.pocket_types.specs.declared.json.Jv.TheOpen.{Jv-F}
use Rattle.pocket_types.specs.declared.json.Member.{Member}
use Rattle.pocket_types.specs.declared.records.Cell.{Cell}
use Rattle.pocket_types.specs.declared.records.Cell.TheVariants as cell
use Rattle.pocket_types.specs.declared.records.Collection.{Collection}
use Rattle.pocket_types.specs.declared.records.Kind.{Kind}
use Rattle.pocket_types.specs.declared.records.Kind.TheVariants as kind
use Rattle.pocket_ops.specs.Trees.{null_jv}
use Rattle.pocket_rows.specs.FieldReading.{flag_in, list_in, may_be_date, read_all, text_in}

-- ---- cells that were never set

abbrev pub zero_cell : Kind → Cell
zero_cell (kind.Text min max) = cell.Text []
zero_cell (kind.Number min max) = cell.Num (pos 0)
zero_cell kind.Flag = cell.Flag false
zero_cell (kind.Date min max) = cell.Date None
zero_cell (kind.Select values most) = cell.Picks []
zero_cell (kind.Json max) = cell.Json null_jv
zero_cell (kind.Relation target most cascade) = cell.Refs []

-- the cells of a collection's fields that were never set
abbrev pub zero_cells : Collection → List Cell
zero_cells c = map (λ f. zero_cell f.kind) c.fields

-- ---- items

abbrev pub is_filled : List ℕ → Bool
is_filled [] = false
is_filled (b ∷ bs) = true

-- the items of texts: the empty text is none, and each keeps its first place
abbrev pub items_in : List (List ℕ) → List (List ℕ)
items_in texts = once (filter is_filled texts)

-- ---- values

-- the text of a tree that is one
abbrev pub text_of : Jv → Option (List ℕ)
text_of tree = text_in (out-Jv tree)

abbrev pub is_null : Jv-F Jv Member → Bool
is_null jv.Null = true
is_null _ = false

abbrev pub num_in : Jv-F Jv Member → Option ℤ
num_in (jv.Num n) = Some n
num_in _ = None

-- the texts of a select or relation: one, or a list where several may stand
abbrev pub texts_of : Bool → Jv → Option (List (List ℕ))
texts_of false tree = option_map (λ t. t ∷ []) (text_of tree)
texts_of true tree = option_map_or (λ t. Some (t ∷ [])) (text_of tree) (option_and_then (read_all text_of) (list_in (out-Jv tree)))

abbrev pub only_ids : List (List ℕ) → Option Cell
only_ids items = if list_all is_id items then Some (cell.Refs items) else None

-- the cell of a value that isn't null
abbrev pub given_cell : Kind → Jv → Option Cell
given_cell (kind.Text min max) tree = option_map (λ t. cell.Text t) (text_of tree)
given_cell (kind.Number min max) tree = option_map (λ n. cell.Num n) (num_in (out-Jv tree))
given_cell kind.Flag tree = option_map (λ b. cell.Flag b) (flag_in (out-Jv tree))
given_cell (kind.Date min max) tree = option_map (λ d. cell.Date d) (option_and_then may_be_date (text_of tree))
given_cell (kind.Select values most) tree =
    option_map (λ texts. cell.Picks (items_in texts)) (texts_of (is_multiple (kind.Select values most)) tree)
given_cell (kind.Json max) tree = Some (cell.Json tree)
given_cell (kind.Relation target most cascade) tree =
    option_and_then (λ texts. only_ids (items_in texts)) (texts_of (is_multiple (kind.Relation target most cascade)) tree)

-- the cell of a value, where the field accepts it: null is the zero value
abbrev pub cell_of : Kind → Jv → Option Cell
cell_of k tree = if is_null (out-Jv tree) then Some (zero_cell k) else given_cell k tree
