use Rattle.std.proofs.Common.{◌≡◌, ◌∷◌, take, flat_map}
use Rattle.std.specs.Option.{option_copied}
use Rattle.pocket_types.specs.Json.{escape_byte}
use Rattle.pocket_tables.specs.Fronts.{then_behind}
use Rattle.pocket_tables.proofs.fronts.behind_string.Given as goal

abbrev pub invariant-loop-byte : goal.invariant-loop-byte
invariant-loop-byte l = option_copied l.rest ≡ then_behind (34 ∷ flat_map escape_byte (take l.byte-index l.byte-items)) (option_copied l.text)
