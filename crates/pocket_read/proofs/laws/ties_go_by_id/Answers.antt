use Rattle.std.proofs.Common.{ap, nat_cmp}
use Rattle.std.specs.Cmp.Lexicographic.{slice_cmp}
use Rattle.std.specs.Ordering.{ordering_then}
use Rattle.pocket_read.proofs.laws.ties_go_by_id.Goals as goal

pub returns : goal.returns
returns c terms a b tied = ap (λ o. ordering_then o (slice_cmp nat_cmp a.id b.id)) tied
