use Rattle.std.proofs.Common.{◌≡◌, drop}
use Rattle.std.specs.Prelude.{map}
use Rattle.httparse.specs.Spans.{header_bytes}
use Rattle.pocket_wire.specs.Heads.{values_of}
use Rattle.pocket_wire.proofs.head.place_of.Given as goal

abbrev pub invariant-loop-i : goal.invariant-loop-i
invariant-loop-i l = values_of l.name (map (header_bytes l.lines) l.fields) ≡ values_of l.name (map (header_bytes l.lines) (drop l.i l.fields))
