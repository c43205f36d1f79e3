use Rattle.std.proofs.Common.{◌≡◌}
use Rattle.pocket_read.proofs.terms.split_at_commas.Given as goal

abbrev pub invariant-loop-piece : goal.invariant-loop-piece
invariant-loop-piece l = l.texts.items ≡ l.yielded
