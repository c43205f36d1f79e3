-- The fields that a tree is read as, member by member.
use Rattle.std.specs.Prelude.{ℕ, ℤ, pos, negsuc, ◌^◌, ◌==◌, Bool, false, nat_lt, List, [], ◌∷◌, codes, length, Option, Some, None, option_map, option_and_then, if◌then◌else◌}
use Rattle.std.specs.Str.{bytes_eq, is_utf8}
use Rattle.pocket_types.specs.Names.{is_name}
use Rattle.pocket_types.specs.declared.json.Jv.{Jv, out-Jv}
use Rattle.pocket_types.specs.declared.json.Jv.TheOpen as jv
use Rattle.pocket_types.specs.declared.json.Jv.TheOpen.{Jv-F}
use Rattle.pocket_types.specs.declared.json.Member.{Member}
use Rattle.pocket_types.specs.declared.records.Field.{Field}
use Rattle.pocket_types.specs.declared.records.Kind.{Kind}
use Rattle.pocket_types.specs.declared.records.Kind.TheVariants as kind
use Rattle.pocket_ops.specs.DateReading.{date_of}
use Rattle.pocket_types.specs.Sound.{is_reserved, may_be_unique}
use Rattle.pocket_rows.specs.Cells.{value_under}

-- ---- trees without parts, by their outermost level

abbrev pub text_in : Jv-F Jv Member → Option (List ℕ)
text_in (jv.Text t) = Some t
text_in _ = None

abbrev pub flag_in : Jv-F Jv Member → Option Bool
flag_in (jv.Flag b) = Some b
flag_in _ = None

abbrev pub list_in : Jv-F Jv Member → Option (List Jv)
list_in (jv.List items) = Some items
list_in _ = None

abbrev pub members_in : Jv-F Jv Member → Option (List Member)
members_in (jv.Map members) = Some members
members_in _ = None

-- a number, or null for none
abbrev pub bound_in : Jv-F Jv Member → Option (Option ℤ)
bound_in jv.Null = Some None
bound_in (jv.Num n) = Some (Some n)
bound_in _ = None

-- a number of 32 bits
abbrev pub count_of : ℤ → Option ℕ
count_of (pos n) = if nat_lt n (2 ^ 32) then Some n else None
count_of (negsuc n) = None

abbrev pub count_in : Jv-F Jv Member → Option ℕ
count_in (jv.Num n) = count_of n
count_in _ = None

-- the date of a text, or the empty text for none
abbrev pub may_be_date : List ℕ → Option (Option ℤ)
may_be_date t = if length t == 0 then Some None else option_map (λ m. Some m) (date_of t)

-- a text, as all texts are in UTF-8
abbrev pub utf8_of : List ℕ → Option (List ℕ)
utf8_of t = if is_utf8 t then Some t else None

abbrev pub text_read : Jv → Option (List ℕ)
text_read tree = option_and_then utf8_of (text_in (out-Jv tree))

-- ---- lists

-- each item read, where all can be
abbrev pub read_all : {A : Type 0} → (Jv → Option A) → List Jv → Option (List A)
read_all read [] = Some []
read_all read (tree ∷ trees) = option_and_then (λ x. option_map (λ xs. x ∷ xs) (read_all read trees)) (read tree)

-- ---- what stands under a key

unfoldable pub text_at : List ℕ → List Member → Option (List ℕ)
text_at key ms = option_and_then (λ tree. text_in (out-Jv tree)) (value_under key ms)

unfoldable pub flag_at : List ℕ → List Member → Option Bool
flag_at key ms = option_and_then (λ tree. flag_in (out-Jv tree)) (value_under key ms)

unfoldable pub count_at : List ℕ → List Member → Option ℕ
count_at key ms = option_and_then (λ tree. count_in (out-Jv tree)) (value_under key ms)

unfoldable pub bound_at : List ℕ → List Member → Option (Option ℤ)
bound_at key ms = option_and_then (λ tree. bound_in (out-Jv tree)) (value_under key ms)

unfoldable pub date_at : List ℕ → List Member → Option (Option ℤ)
date_at key ms = option_and_then may_be_date (text_at key ms)

unfoldable pub texts_at : List ℕ → List Member → Option (List (List ℕ))
texts_at key ms = option_and_then (read_all text_read) (option_and_then (λ tree. list_in (out-Jv tree)) (value_under key ms))

-- a name
abbrev pub name_of : List ℕ → Option (List ℕ)
name_of t = if is_name t then Some t else None

unfoldable pub name_at : List ℕ → List Member → Option (List ℕ)
name_at key ms = option_and_then name_of (text_at key ms)

-- a name that a field may have
abbrev pub field_name_of : List ℕ → Option (List ℕ)
field_name_of t = if is_reserved t then None else name_of t

unfoldable pub field_name_at : List ℕ → List Member → Option (List ℕ)
field_name_at key ms = option_and_then field_name_of (text_at key ms)

-- ---- types with their options

unfoldable pub text_kind : List Member → Option Kind
text_kind ms =
    option_and_then (λ min. option_map (λ max. kind.Text min max) (count_at (codes "max") ms)) (count_at (codes "min") ms)

unfoldable pub number_kind : List Member → Option Kind
number_kind ms =
    option_and_then (λ min. option_map (λ max. kind.Number min max) (bound_at (codes "max") ms)) (bound_at (codes "min") ms)

unfoldable pub date_kind : List Member → Option Kind
date_kind ms =
    option_and_then (λ min. option_map (λ max. kind.Date min max) (date_at (codes "max") ms)) (date_at (codes "min") ms)

unfoldable pub json_kind : List Member → Option Kind
json_kind ms = option_map (λ max. kind.Json max) (count_at (codes "maxSize") ms)

unfoldable pub select_kind : List Member → Option Kind
select_kind ms =
    option_and_then (λ most. option_map (λ values. kind.Select values most) (texts_at (codes "values") ms)) (count_at (codes "maxSelect") ms)

unfoldable pub relation_kind : List Member → Option Kind
relation_kind ms =
    option_and_then (λ most. option_and_then (λ cascade. option_map (λ target. kind.Relation target most cascade) (name_at (codes "collection") ms)) (flag_at (codes "cascadeDelete") ms))
    (count_at (codes "maxSelect") ms)

-- the type of this name
unfoldable pub kind_named : List ℕ → List Member → Option Kind
kind_named t ms =
    if bytes_eq t (codes "text") then text_kind ms
    else if bytes_eq t (codes "number") then number_kind ms
    else if bytes_eq t (codes "bool") then Some kind.Flag
    else if bytes_eq t (codes "date") then date_kind ms
    else if bytes_eq t (codes "select") then select_kind ms
    else if bytes_eq t (codes "json") then json_kind ms
    else if bytes_eq t (codes "relation") then relation_kind ms
    else None

unfoldable pub kind_at : List Member → Option Kind
kind_at ms = option_and_then (λ t. kind_named t ms) (text_at (codes "type") ms)

-- ---- fields

-- whether the field is unique
unfoldable pub unique_at : Kind → List Member → Option Bool
unique_at k ms = if may_be_unique k then flag_at (codes "unique") ms else Some false

unfoldable pub field_at : List Member → Option Field
field_at ms =
    option_and_then
    (λ name. option_and_then
    (λ kind. option_and_then
    (λ required. option_and_then
    (λ hidden. option_map (λ unique. record { name = name; kind = kind; required = required; hidden = hidden; unique = unique }) (unique_at kind ms))
    (flag_at (codes "hidden") ms))
    (flag_at (codes "required") ms))
    (kind_at ms))
    (field_name_at (codes "name") ms)

unfoldable pub field_read : Jv → Option Field
field_read tree = option_and_then field_at (members_in (out-Jv tree))
