-- What becomes of a state when one record is put.
use Rattle.std.specs.Prelude.{Bool, false}
use Rattle.std.specs.Option.{option_map_or}
use Rattle.std.specs.Str.{bytes_eq}
use Rattle.pocket_types.specs.declared.records.Collection.{Collection}
use Rattle.pocket_types.specs.declared.records.Rec.{Rec}
use Rattle.pocket_types.specs.declared.world.World.{World}
use Rattle.pocket_keeper.specs.Texts.{rec_row}
use Rattle.pocket_tables.specs.Worlds.{rec_at}
use Rattle.pocket_change.specs.Changes.{world_with}
use Rattle.pocket_states.specs.States.{MachineState}

-- the state with a record put into its world
abbrev pub state_with : MachineState → Collection → Rec → MachineState
state_with s c r = record s { world = world_with s.world c r }

-- whether a record of this id stands in the collection already, and its row has the text of this one's
abbrev pub row_stands : World → Collection → Rec → Bool
row_stands w c r = option_map_or (λ old. bytes_eq (rec_row c old).value (rec_row c r).value) (rec_at w c.name r.id) false
