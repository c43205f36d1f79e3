-- What is wrong with a record.
use Rattle.std.specs.Prelude.{ℤ, pos, ◌==◌, ◌^◌, int_lt, nat_lt, nat_le, Bool, true, false, not, ◌&&◌, ◌||◌, List, [], ◌∷◌, length, find, filter_map, zip, is_none, Option, Some, None, option_map}
use Rattle.std.specs.List.{list_any, list_all}
use Rattle.std.specs.Option.{option_map_or}
use Rattle.std.specs.Ordering.{int_eq}
use Rattle.std.specs.Str.{bytes_eq, chars}
use Rattle.pocket_types.specs.Json.{printed}
use Rattle.pocket_types.specs.Kinds.{target_of}
use Rattle.pocket_types.specs.Profile.{size_of}
use Rattle.pocket_types.specs.declared.faults.Code.{Code}
use Rattle.pocket_types.specs.declared.faults.Code.TheVariants as code
use Rattle.pocket_types.specs.declared.faults.FieldFault.{FieldFault}
use Rattle.pocket_types.specs.declared.json.Jv.{out-Jv}
use Rattle.pocket_types.specs.declared.records.Cell.{Cell}
use Rattle.pocket_types.specs.declared.records.Cell.TheVariants as cell
use Rattle.pocket_types.specs.declared.records.Collection.{Collection}
use Rattle.pocket_types.specs.declared.records.Field.{Field}
use Rattle.pocket_types.specs.declared.records.Kind.{Kind}
use Rattle.pocket_types.specs.declared.records.Kind.TheVariants as kind
use Rattle.pocket_types.specs.declared.records.Rec.{Rec}
use Rattle.pocket_types.specs.declared.world.World.{World}
use Rattle.pocket_ops.specs.Cells.{cell_value}
use Rattle.pocket_ops.specs.Fields.{ids_of}
use Rattle.pocket_tables.specs.Reads.{matching}
use Rattle.pocket_tables.specs.Worlds.{rec_at}
use Rattle.pocket_check.specs.Cells.{is_null}

-- whether a cell is the zero value of its field
abbrev pub is_zero_cell : Cell → Bool
is_zero_cell (cell.Text t) = length t == 0
is_zero_cell (cell.Num n) = int_eq n (pos 0)
is_zero_cell (cell.Flag b) = not b
is_zero_cell (cell.Date d) = is_none d
is_zero_cell (cell.Picks items) = length items == 0
is_zero_cell (cell.Json tree) = is_null (out-Jv tree)
is_zero_cell (cell.Refs ids) = length ids == 0

-- ---- the cases of the table

-- a number over 2^53 - 1 in size
abbrev pub is_over : Cell → Bool
is_over (cell.Num n) = nat_le (2 ^ 53) (size_of n)
is_over _ = false

-- a number is below a bound, where there is one
abbrev pub below : Option ℤ → ℤ → Bool
below bound n = option_map_or (λ low. int_lt n low) bound false

abbrev pub above : Option ℤ → ℤ → Bool
above bound n = option_map_or (λ high. int_lt high n) bound false

-- a text's characters, a number or a date below its bound
abbrev pub is_below : Kind → Cell → Bool
is_below (kind.Text min max) (cell.Text t) = nat_lt (length (chars t)) min
is_below (kind.Number min max) (cell.Num n) = below min n
is_below (kind.Date min max) (cell.Date (Some m)) = below min m
is_below _ _ = false

-- above its bound
abbrev pub is_above : Kind → Cell → Bool
is_above (kind.Text min max) (cell.Text t) = nat_lt max (length (chars t))
is_above (kind.Number min max) (cell.Num n) = above max n
is_above (kind.Date min max) (cell.Date (Some m)) = above max m
is_above _ _ = false

-- a json text over its size; more items than may stand there
abbrev pub is_too_big : Kind → Cell → Bool
is_too_big (kind.Json max) (cell.Json tree) = nat_lt max (length (printed tree))
is_too_big (kind.Select values most) (cell.Picks items) = nat_lt most (length items)
is_too_big (kind.Relation target most cascade) (cell.Refs ids) = nat_lt most (length ids)
is_too_big _ _ = false

-- an item that isn't one of the select's values
abbrev pub is_unknown : Kind → Cell → Bool
is_unknown (kind.Select values most) (cell.Picks items) = not (list_all (λ x. list_any (bytes_eq x) values) items)
is_unknown _ _ = false

-- a relation's record isn't there
abbrev pub is_missing : World → Kind → Cell → Bool
is_missing w k c = option_map_or (λ target. list_any (λ id. is_none (rec_at w target id)) (ids_of c)) (target_of k) false

-- another record of the collection has the field's value
abbrev pub is_taken : World → Collection → Rec → Field → Cell → Bool
is_taken w c r f mine = list_any (λ other. not (bytes_eq other.id r.id)) (matching w c.name f.name (cell_value f mine))

-- ---- faults

-- the first code whose test is met
abbrev pub first_code : List (Bool × Code) → Option Code
first_code cases = option_map (λ x. x.1) (find (λ x. x.0) cases)

-- the table: what is wrong with a field's cell, told whether that is its zero value; the first case that applies counts
abbrev pub code_of : World → Collection → Rec → Field → Cell → Bool → Option Code
code_of w c r f mine is_zero = first_code (
    (is_over mine, code.Range)
    ∷ (f.required && is_zero, code.Required)
    ∷ (not is_zero && is_below f.kind mine, code.Min)
    ∷ ((not is_zero && is_above f.kind mine) || is_too_big f.kind mine, code.Max)
    ∷ (is_unknown f.kind mine, code.Value)
    ∷ (is_missing w f.kind mine, code.Missing)
    ∷ (f.unique && not is_zero && is_taken w c r f mine, code.Taken)
    ∷ [])

-- a field with its cell, and what is wrong with it
abbrev pub field_fault : World → Collection → Rec → Field × Cell → Option FieldFault
field_fault w c r (f, mine) = option_map (λ x. record { field = f.name; code = x }) (code_of w c r f mine (is_zero_cell mine))

-- what is wrong with a record in a world, field by field
unfoldable pub faults_of : World → Collection → Rec → List FieldFault
faults_of w c r = filter_map (field_fault w c r) (zip c.fields r.cells)
