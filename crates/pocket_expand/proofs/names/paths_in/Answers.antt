use Rattle.std.proofs.Common.{lit<, map, ap, ◌∙◌}
use Rattle.std.proofs.lemmas.Iterator.Consumers.{YieldsList-end}
use Rattle.std.proofs.lemmas.Iterator.Splits.{YieldsList-from_str_split}
use Rattle.std.specs.Prelude.{◌==◌}
use Rattle.std.specs.List.{slice_split}
use Rattle.std.specs.Str.Iter.{split_text, split_has_more, split_pattern}
use Rattle.pocket_expand.proofs.PathLemmas.{pieces_now}
use Rattle.pocket_expand.proofs.names.paths_in.Goals as goal

pub returns : goal.returns
returns c =
    let from = c.into_iter-path-iterator.ensures.into_iter_gives in
    let split = c.split-path-items.ensures in
    let list = YieldsList-from_str_split 44 c.args.text.now (lit< tt) (ap split_text from ∙ split.text) (ap split_has_more from ∙ split.has_more) (ap split_pattern from ∙ split.pattern) in
    let t = YieldsList-end list c.loop-path.yielded _ c.loop-path.yielded_by _ _ c.in-None.is c.next.ensures.steps in
    c.from_vec.ensures ∙ c.loop-path.invariant ∙ pieces_now (slice_split (λ b. b == 46)) c.loop-path.yielded ∙ ap (map (slice_split (λ b. b == 46))) t.0
