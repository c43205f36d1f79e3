use Rattle.std.proofs.Common.{◌≡◌, take}
use Rattle.std.specs.Prelude.{map}
use Rattle.httparse.specs.Spans.{header_bytes}
use Rattle.pocket_wire.specs.Heads.{headers_of}
use Rattle.pocket_wire.proofs.head.headers.Given as goal

abbrev pub invariant-loop-field : goal.invariant-loop-field
invariant-loop-field l = l.pairs ≡ headers_of (map (header_bytes l.lines) (take l.field-index l.fields))
