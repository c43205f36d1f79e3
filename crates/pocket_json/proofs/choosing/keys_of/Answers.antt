use Rattle.std.proofs.Common.{lit<, ap, ◌∙◌}
use Rattle.std.proofs.lemmas.Iterator.Consumers.{YieldsList-end}
use Rattle.std.proofs.lemmas.Iterator.Splits.{YieldsList-from_str_split}
use Rattle.std.specs.Str.Iter.{split_text, split_has_more, split_pattern}
use Rattle.pocket_json.proofs.choosing.keys_of.Goals as goal

pub returns : goal.returns
returns c =
    let from = c.into_iter-key-iterator.ensures.into_iter_gives in
    let split = c.split-key-items.ensures in
    let list = YieldsList-from_str_split 46 c.args.path.now (lit< tt) (ap split_text from ∙ split.text) (ap split_has_more from ∙ split.has_more) (ap split_pattern from ∙ split.pattern) in
    let t = YieldsList-end list c.loop-key.yielded _ c.loop-key.yielded_by _ _ c.in-None.is c.next.ensures.steps in
    c.from_vec.ensures ∙ c.loop-key.invariant ∙ t.0
