use Rattle.std.proofs.Common.{◌≡◌, ◌<◌, ◌≤◌, ◌++◌, ◌-◌, ℕ, List, length, vec_len}
use Rattle.std.specs.Io.KnownBytes.{Consumes}
use Rattle.pocket_types.specs.Causes.{StaysUntold}
use Rattle.pocket_wire.specs.Reads.{ReadsWhile}
use Rattle.pocket_wire.proofs.read.read_until.Given as goal

abbrev pub invariant-fill : goal.invariant-fill
invariant-fill g l = record {
  got : (got : List ℕ) × Consumes (g.S.Source.left l.fn.source) (g.S.Source.left l.source) got × (l.bytes.items ≡ l.fn.bytes.items ++ got)
      × ReadsWhile g.S.Source.gives (λ bytes. length bytes < l.size) l.fn.bytes.items got l.fn.source l.source;
  still : l.size ≤ length l.fn.bytes.items → (l.source ≡ l.fn.source) × (l.bytes.items ≡ l.fn.bytes.items);
  count : g.S.Source.faults l.fn.source ≤ g.S.Source.faults l.source;
  untold : StaysUntold (g.S.Source.left l.fn.source) (g.S.Source.left l.source);
  apart : g.S.Source.untouched l.source ≡ g.S.Source.untouched l.fn.source;
}

abbrev pub decreases-fill : goal.decreases-fill
decreases-fill g l = l.size - vec_len l.bytes
