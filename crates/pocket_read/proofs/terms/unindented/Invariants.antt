use denote.Shadow.{shadow}
use denote.Text.{Utf8}
use Rattle.std.proofs.Common.{◌≡◌, length}
use Rattle.pocket_read.specs.Terms.{unindented}
use Rattle.pocket_read.proofs.terms.unindented.Given as goal

abbrev pub invariant-loop-shorter : goal.invariant-loop-shorter
invariant-loop-shorter l = (unindented l.rest ≡ unindented l.fn.text) × shadow (Utf8 l.rest)

abbrev pub decreases-loop-shorter : goal.decreases-loop-shorter
decreases-loop-shorter l = length l.rest
