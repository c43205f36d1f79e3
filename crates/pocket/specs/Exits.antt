-- The exit statuses.
use Rattle.std.specs.Prelude.{ℕ, Bool, List, if◌then◌else◌}
use Rattle.std.specs.List.{list_any}
use Rattle.pocket_serve.specs.declared.hand.WorkerEnd.{WorkerEnd}
use Rattle.pocket_wire.specs.declared.request.Ended.{Ended}
use Rattle.pocket_wire.specs.declared.request.Ended.TheVariants as ended
use Rattle.pocket.specs.declared.status.RunEnd.{RunEnd}
use Rattle.pocket.specs.declared.status.RunEnd.TheVariants as run

-- of a session
abbrev pub session_exit : Ended → ℕ
session_exit ended.Done = 0
session_exit ended.Closed = 0
session_exit ended.SourceFault = 3
session_exit ended.SinkFault = 4
session_exit (ended.Refused status) = 7
session_exit ended.Truncated = 8
session_exit ended.Limit = 9
session_exit ended.Memory = 10

-- of a run
abbrev pub exit_status : RunEnd → ℕ
exit_status (run.Session e) = session_exit e
exit_status (run.Faults n) = 1
exit_status run.Words = 2
exit_status run.SourceFault = 3
exit_status run.SinkFault = 4
exit_status run.KeeperFault = 5
exit_status (run.BadStore key) = 6
exit_status run.BadInput = 7
exit_status run.Memory = 10
exit_status run.NotEmpty = 11

-- whether a worker ended for its acceptor
abbrev pub is_faulted : WorkerEnd → Bool
is_faulted worker = worker.faulted

-- of a server
abbrev pub serve_exit : RunEnd → List WorkerEnd → ℕ
serve_exit (run.Session ended.Done) workers = if list_any is_faulted workers then 12 else 0
serve_exit started workers = exit_status started
