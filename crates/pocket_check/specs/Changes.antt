-- The changes of a field's cell, one after another, as a body asks for them.
use Rattle.std.specs.Prelude.{ℕ, pos, neg_ℤ, ◌≤ℤ◌, ◌*◌, ◌^◌, List, Option, Some, None, Result, Ok, option_map, if◌then◌else◌}
use Rattle.std.specs.Option.{option_map_or}
use Rattle.pocket_types.specs.Chains.{◌>>=◌, or_refuse}
use Rattle.pocket_types.specs.declared.json.Jv.{Jv}
use Rattle.pocket_types.specs.declared.json.Member.{Member}
use Rattle.pocket_types.specs.declared.records.Cell.{Cell}
use Rattle.pocket_types.specs.declared.records.Cell.TheVariants as cell
use Rattle.pocket_types.specs.declared.records.Field.{Field}
use Rattle.pocket_types.specs.declared.requests.Sent.{Sent}
use Rattle.pocket_rows.specs.Cells.{value_under}
use Rattle.pocket_check.specs.Bodies.{cell_changed, has_key, key_of}
use Rattle.pocket_check.specs.Cells.{cell_of}
use Rattle.pocket_check.specs.declared.change.Change.{Change}
use Rattle.pocket_check.specs.declared.change.Change.TheVariants.{Becomes, Before, Behind, Without}
use Rattle.pocket_check.specs.declared.fault.CheckFault.{CheckFault}
use Rattle.pocket_check.specs.declared.fault.CheckFault.TheVariants.{BadValue}

-- the value that a body's members have for a change
abbrev pub asked : Field → List Member → Change → Option Jv
asked f ms change = if has_key f.kind change then value_under (key_of f.name change) ms else None

-- the cell that a field has by now, which is the old one until a change is asked for
abbrev pub cell_by_now : Cell → Option Cell → Cell
cell_by_now old now = option_map_or (λ c. c) now old

-- the cell that a value is in a field
abbrev pub read_cell : Field → Jv → Result Cell CheckFault
read_cell f tree = or_refuse (cell_of f.kind tree) (BadValue f.name)

-- a field's cell after one change more, where it is asked for
unfoldable pub after_change : Field → List Member → Cell → Change → Option Cell → Result (Option Cell) CheckFault
after_change f ms old change now =
    option_map_or (λ tree. read_cell f tree >>= λ given. Ok (Some (cell_changed change (cell_by_now old now) given))) (asked f ms change) (Ok now)

-- a field's cell after all that is asked for, where anything is
unfoldable pub after_changes : Field → List Member → Cell → Result (Option Cell) CheckFault
after_changes f ms old = do
  first ← after_change f ms old Becomes None
  second ← after_change f ms old Before first
  third ← after_change f ms old Behind second
  after_change f ms old Without third

abbrev pub as_sent : Field → Cell → Sent
as_sent f c = record { field = f.name; cell = c }

-- a field that isn't ignored, as it is sent
abbrev pub field_read : Field → List Member → Cell → Result (Option Sent) CheckFault
field_read f ms old = do
  found ← after_changes f ms old
  Ok (option_map (as_sent f) found)

-- a number is of at most so many times 2^53 in size
abbrev pub IsWithin : ℕ → Cell → Type 0
IsWithin times (cell.Num n) = (neg_ℤ (pos (times * 2 ^ 53)) ≤ℤ n) × (n ≤ℤ pos (times * 2 ^ 53))
IsWithin times _ = Unit {0}
