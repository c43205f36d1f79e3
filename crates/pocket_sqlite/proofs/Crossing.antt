-- A keeper may go to another thread.
use denote.Param.Send.{IsSend, sendable, view_send, owning_send}
use denote.Param.SendFields.{declared_send, variants_send, as_row_send, array_field_send}
use Rattle.std.proofs.Crossing.{crosses}
use Rattle.std.proofs.fs.File.TheSendSync as file
use Rattle.sqlite_std_file.specs.contracts.record.Record as calls
use Rattle.sqlite_std_file.specs.contracts.host.Host as host
use Rattle.sqlite_disk.proofs.modelled.Modelled.TheSendSync as disk
use Rattle.sqlite_store.proofs.store.FileStore.TheSendSync as store
use Rattle.sqlite.proofs.connection.Connection.TheSendSync as connection
use Rattle.pocket_sqlite.specs.contracts.keeper.SqliteKeeper as keeper

ruleset crossing = (sendable, crosses, declared_send, variants_send, as_row_send, array_field_send, view_send, owning_send)

calls_send : IsSend calls.the_row
calls_send = search crossing depth 40 fits 20000

host_send : IsSend host.the_row
host_send = search (crossing, calls_send, file.the_send) depth 40 fits 20000

pub keeper_send : IsSend keeper.the_row
keeper_send = search (crossing, host_send, disk.the_send, store.the_send, connection.the_send) depth 40 fits 20000
