use Rattle.std.proofs.Common.{◌≡◌, ◌≤◌, ◌++◌, ◌-◌, ℕ, List, vec_len}
use Rattle.std.specs.Io.KnownBytes.{Consumes}
use Rattle.pocket_types.specs.Causes.{StaysUntold}
use Rattle.pocket_wire.specs.Blocks.{IsUnfinished}
use Rattle.pocket_wire.specs.Reads.{ReadsWhile}
use Rattle.pocket_wire.specs.Searches.{IsLookedThrough}
use Rattle.pocket_wire.proofs.read.read_block.Given as goal

abbrev pub invariant-fill : goal.invariant-fill
invariant-fill g l = record {
  got : (got : List ℕ) × Consumes (g.S.Source.left l.fn.source) (g.S.Source.left l.source) got × (l.bytes.items ≡ l.fn.bytes.items ++ got)
      × ReadsWhile g.S.Source.gives IsUnfinished l.fn.bytes.items got l.fn.source l.source;
  looked : IsLookedThrough l.bytes.items l.search;
  still : ¬ (IsUnfinished l.fn.bytes.items) → (l.source ≡ l.fn.source) × (l.bytes.items ≡ l.fn.bytes.items);
  count : g.S.Source.faults l.fn.source ≤ g.S.Source.faults l.source;
  untold : StaysUntold (g.S.Source.left l.fn.source) (g.S.Source.left l.source);
  apart : g.S.Source.untouched l.source ≡ g.S.Source.untouched l.fn.source;
}

abbrev pub decreases-fill : goal.decreases-fill
decreases-fill g l = 16384 - vec_len l.bytes
