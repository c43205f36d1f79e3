use Rattle.std.proofs.Common.{lit<, map, ap, ◌∙◌}
use Rattle.std.proofs.lemmas.Iterator.Consumers.{YieldsList-end}
use Rattle.std.proofs.lemmas.Iterator.Splits.{YieldsList-from_str_split}
use Rattle.std.specs.Str.Iter.{split_text, split_has_more, split_pattern}
use Rattle.pocket_filter.specs.Operands.{part_of}
use Rattle.pocket_filter.proofs.Parts.{map_now}
use Rattle.pocket_filter.proofs.operands.parts.Goals as goal

pub returns : goal.returns
returns c =
    let from = c.into_iter-written-iterator.ensures.into_iter_gives in
    let split = c.split-written-items.ensures in
    let list = YieldsList-from_str_split 46 c.args.path.now (lit< tt) (ap split_text from ∙ split.text) (ap split_has_more from ∙ split.has_more) (ap split_pattern from ∙ split.pattern) in
    let t = YieldsList-end list c.loop-written.yielded _ c.loop-written.yielded_by _ _ c.in-None.is c.next.ensures.steps in
    c.from_vec.ensures ∙ c.loop-written.invariant ∙ map_now c.loop-written.yielded ∙ ap (map part_of) t.0
