-- The fields that a body sends, with the cells that they will have.
use Rattle.std.specs.Prelude.{ℕ, ◌+ℤ◌, ◌-ℤ◌, Bool, true, false, not, ◌&&◌, ◌||◌, List, [], ◌∷◌, ◌++◌, map, filter, filter_map, fold, zip, codes, Option, Some, None, Result, Ok, Err, option_map, if◌then◌else◌}
use Rattle.std.specs.List.{list_any}
use Rattle.std.specs.Option.{option_map_or}
use Rattle.std.specs.Str.{bytes_eq}
use Rattle.pocket_types.specs.Callers.{is_admin}
use Rattle.pocket_types.specs.Chains.{◌>>=◌, each, or_refuse}
use Rattle.pocket_types.specs.Kinds.{is_multiple}
use Rattle.pocket_types.specs.Lists.{once}
use Rattle.pocket_types.specs.Names.{is_id}
use Rattle.pocket_types.specs.declared.ids.Id.{Id}
use Rattle.pocket_types.specs.declared.json.Jv.{Jv, out-Jv}
use Rattle.pocket_types.specs.declared.json.Member.{Member}
use Rattle.pocket_types.specs.declared.records.Cell.{Cell}
use Rattle.pocket_types.specs.declared.records.Cell.TheVariants as cell
use Rattle.pocket_types.specs.declared.records.Collection.{Collection}
use Rattle.pocket_types.specs.declared.records.Field.{Field}
use Rattle.pocket_types.specs.declared.records.Kind.{Kind}
use Rattle.pocket_types.specs.declared.records.Kind.TheVariants as kind
use Rattle.pocket_types.specs.declared.records.Rec.{Rec}
use Rattle.pocket_types.specs.declared.requests.Caller.{Caller}
use Rattle.pocket_types.specs.declared.requests.Sent.{Sent}
use Rattle.pocket_rows.specs.Cells.{value_under}
use Rattle.pocket_rows.specs.FieldReading.{members_in}
use Rattle.pocket_meaning.specs.Related.{sent_for}
use Rattle.pocket_check.specs.Cells.{cell_of, is_null, text_of, zero_cells}
use Rattle.pocket_check.specs.declared.change.Change.{Change}
use Rattle.pocket_check.specs.declared.change.Change.TheVariants.{Becomes, Before, Behind, Without}
use Rattle.pocket_check.specs.declared.fault.CheckFault.{CheckFault}
use Rattle.pocket_check.specs.declared.fault.CheckFault.TheVariants.{BadBody, BadValue}

-- ---- keys

abbrev pub is_number : Kind → Bool
is_number (kind.Number min max) = true
is_number _ = false

-- whether a field of this kind has a key for the change
abbrev pub has_key : Kind → Change → Bool
has_key k Becomes = true
has_key k Before = is_multiple k
has_key k Behind = is_multiple k || is_number k
has_key k Without = is_multiple k || is_number k

-- the key of a change, by the field's name
abbrev pub key_of : List ℕ → Change → List ℕ
key_of name Becomes = name
key_of name Before = codes "+" ++ name
key_of name Behind = name ++ codes "+"
key_of name Without = name ++ codes "-"

-- the changes in the order in which they are applied
abbrev pub all_changes : List Change
all_changes = Becomes ∷ Before ∷ Behind ∷ Without ∷ []

-- a change with its key
abbrev pub keyed : List ℕ → Change → List ℕ × Change
keyed name change = (key_of name change, change)

-- the keys of a field
abbrev pub keys_of : Field → List (List ℕ × Change)
keys_of f = map (keyed f.name) (filter (has_key f.kind) all_changes)

-- items without those of another list
abbrev pub items_without : List (List ℕ) → List (List ℕ) → List (List ℕ)
items_without items gone = filter (λ x. not (list_any (bytes_eq x) gone)) items

-- items after a change by those given
abbrev pub items_changed : Change → List (List ℕ) → List (List ℕ) → List (List ℕ)
items_changed Becomes old given = given
items_changed Before old given = once (given ++ old)
items_changed Behind old given = once (old ++ given)
items_changed Without old given = items_without old given

-- a cell after a change by a given one
abbrev pub cell_changed : Change → Cell → Cell → Cell
cell_changed Becomes old given = given
cell_changed how (cell.Picks old) (cell.Picks given) = cell.Picks (items_changed how old given)
cell_changed how (cell.Refs old) (cell.Refs given) = cell.Refs (items_changed how old given)
cell_changed Behind (cell.Num old) (cell.Num given) = cell.Num (old +ℤ given)
cell_changed Without (cell.Num old) (cell.Num given) = cell.Num (old -ℤ given)
cell_changed _ old given = given

-- ---- fields

-- what stands under a key, as a change
abbrev pub change_under : List Member → List ℕ × Change → Option (Change × Jv)
change_under ms (key, change) = option_map (λ tree. (change, tree)) (value_under key ms)

-- a change with the cell that its value is, or the field's fault
abbrev pub read_change : Field → Change × Jv → Result (Change × Cell) CheckFault
read_change f (change, tree) = or_refuse (option_map (λ given. (change, given)) (cell_of f.kind tree)) (BadValue f.name)

-- the field as it is sent, where it is
abbrev pub sent_by : Field → Cell → List (Change × Cell) → Option Sent
sent_by f old [] = None
sent_by f old (x ∷ xs) = Some (record { field = f.name; cell = fold (λ now y. cell_changed y.0 now y.1) old (x ∷ xs) })

-- hidden fields are ignored in a body that isn't the administrator's
abbrev pub is_ignored : Caller → Field → Bool
is_ignored who f = f.hidden && not (is_admin who)

-- a field with its old cell, as a body sends it
abbrev pub field_sent : Caller → List Member → Field × Cell → Result (Option Sent) CheckFault
field_sent who ms (f, old) = do
  changes ← each (read_change f) (filter_map (change_under ms) (if is_ignored who f then [] else keys_of f))
  Ok (sent_by f old changes)

-- the fields that a body's members send over old cells, or the first fault in the order of the fields
unfoldable pub sent_fields : Caller → Collection → List Cell → List Member → Result (List Sent) CheckFault
sent_fields who c old ms = do
  found ← each (field_sent who ms) (zip c.fields old)
  Ok (filter_map (λ x. x) found)

-- old cells with those that were sent in their places
abbrev pub with_sent : List Sent → Collection → List Cell → List Cell
with_sent sent c old = map (λ x. option_map_or (λ s. s.cell) (sent_for sent x.0.name) x.1) (zip c.fields old)

-- ---- the id of a creation

-- the id that a text is; the empty text is none
abbrev pub id_of_text : List ℕ → Result (Option Id) CheckFault
id_of_text [] = Ok None
id_of_text (b ∷ bs) = if is_id (b ∷ bs) then Ok (Some (b ∷ bs)) else Err (BadValue (codes "id"))

abbrev pub id_of_tree : Jv → Result (Option Id) CheckFault
id_of_tree tree = if is_null (out-Jv tree) then Ok None else option_map_or id_of_text (text_of tree) (Err (BadValue (codes "id")))

-- ---- bodies

-- the members of a body, which has to be a map
abbrev pub members_sent : Jv → Result (List Member) CheckFault
members_sent body = or_refuse (members_in (out-Jv body)) BadBody

-- the id that a body gives to a new record, where it gives one
unfoldable pub given_id : Jv → Result (Option Id) CheckFault
given_id body = do
  ms ← members_sent body
  option_map_or id_of_tree (value_under (codes "id") ms) (Ok None)

-- the fields that a body sends over old cells
unfoldable pub sent_over : Caller → Collection → List Cell → Jv → Result (List Sent) CheckFault
sent_over who c old body = do
  ms ← members_sent body
  sent_fields who c old ms

-- the fields that a body sends: a new record's are read over zero cells once its id is read, those of an old one over its cells
unfoldable pub sent : Caller → Collection → Option Rec → Jv → Result (List Sent) CheckFault
sent who c None body = do
  _ ← given_id body
  sent_over who c (zero_cells c) body
sent who c (Some old) body = sent_over who c old.cells body
