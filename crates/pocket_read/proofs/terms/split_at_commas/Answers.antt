use Rattle.std.proofs.Common.{lit<, map, ap, ◌∙◌}
use Rattle.std.proofs.lemmas.Iterator.Consumers.{YieldsList-end}
use Rattle.std.proofs.lemmas.Iterator.Splits.{YieldsList-from_str_split}
use Rattle.std.specs.Str.Iter.{split_text, split_has_more, split_pattern}
use Rattle.pocket_read.proofs.terms.split_at_commas.Goals as goal

pub returns : goal.returns
returns c =
    let from = c.into_iter-piece-iterator.ensures.into_iter_gives in
    let split = c.split-piece-items.ensures in
    let list = YieldsList-from_str_split 44 c.args.text.now (lit< tt) (ap split_text from ∙ split.text) (ap split_has_more from ∙ split.has_more) (ap split_pattern from ∙ split.pattern) in
    let t = YieldsList-end list c.loop-piece.yielded _ c.loop-piece.yielded_by _ _ c.in-None.is c.next.ensures.steps in
    ap (map (λ piece. piece.now)) c.loop-piece.invariant ∙ t.0
