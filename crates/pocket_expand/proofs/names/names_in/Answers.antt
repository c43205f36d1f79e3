use Rattle.std.proofs.Common.{lit<, ap, ◌∙◌}
use Rattle.std.proofs.lemmas.Iterator.Consumers.{YieldsList-end}
use Rattle.std.proofs.lemmas.Iterator.Splits.{YieldsList-from_str_split}
use Rattle.std.specs.Str.Iter.{split_text, split_has_more, split_pattern}
use Rattle.pocket_expand.proofs.names.names_in.Goals as goal

pub returns : goal.returns
returns c =
    let from = c.into_iter-name-iterator.ensures.into_iter_gives in
    let split = c.split-name-items.ensures in
    let list = YieldsList-from_str_split 46 c.args.path.now (lit< tt) (ap split_text from ∙ split.text) (ap split_has_more from ∙ split.has_more) (ap split_pattern from ∙ split.pattern) in
    let t = YieldsList-end list c.loop-name.yielded _ c.loop-name.yielded_by _ _ c.in-None.is c.next.ensures.steps in
    c.from_vec.ensures ∙ c.loop-name.invariant ∙ t.0
