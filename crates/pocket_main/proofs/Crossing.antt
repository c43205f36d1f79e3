-- The keeper of a run may go to another thread.
use denote.Param.Send.{IsSend, sendable, view_send, owning_send}
use denote.Param.SendFields.{declared_send, variants_send, as_row_send, array_field_send}
use Rattle.std.proofs.Crossing.{crosses}
use Rattle.pocket_sqlite.proofs.Crossing.{keeper_send}
use Rattle.pocket_main.specs.contracts.keepers.HostKeeper as keeper

ruleset crossing = (sendable, crosses, declared_send, variants_send, as_row_send, array_field_send, view_send, owning_send)

pub host_keeper_send : IsSend keeper.the_row
host_keeper_send = search (crossing, keeper_send) depth 40 fits 20000
