use Rattle.std.proofs.Common.{length, ◌-◌, ◌≡◌, ◌≤◌, take}
use Rattle.std.specs.Io.KnownBytes.{Appends}
use Rattle.pocket_types.specs.Causes.{StaysUntold}
use Rattle.pocket_wire.proofs.write.write_all.Given as goal

abbrev pub invariant-loop-at : goal.invariant-loop-at
invariant-loop-at g l = record {
  in_range : l.at ≤ length l.bytes;
  taken : Appends (g.O.Sink.taken l.fn.sink) (g.O.Sink.taken l.sink) (take l.at l.bytes);
  untold : StaysUntold (g.O.Sink.taken l.fn.sink) (g.O.Sink.taken l.sink);
  count : g.O.Sink.faults l.fn.sink ≤ g.O.Sink.faults l.sink;
  apart : g.O.Sink.untouched l.sink ≡ g.O.Sink.untouched l.fn.sink;
}

abbrev pub decreases-loop-at : goal.decreases-loop-at
decreases-loop-at g l = length l.bytes - l.at
