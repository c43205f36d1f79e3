use Rattle.std.proofs.Common.{ap}
use Rattle.pocket_expand.specs.Expansion.{expanded_jv, shown_collection, shown_rec}
use Rattle.pocket_expand.proofs.laws.what_is_not_seen_tells_nothing.Goals as goal

pub returns : goal.returns
returns c = λ w v ask k r names same. ap (λ seen. expanded_jv seen names.branches (shown_collection ask.caller k) (shown_rec ask.caller k r)) same
