use Rattle.std.proofs.Common.{rules, ◌∙◌}
use Rattle.std.proofs.lemmas.Iterator.{YieldsList-from_slice}
use Rattle.std.proofs.lemmas.Iterator.Search.{any_from_yields_List}
use Rattle.pocket_json.specs.Choosing.{has_ended}
use Rattle.pocket_json.proofs.ChoosingLemmas.{any_now}
use Rattle.pocket_json.proofs.choosing.one_has_ended.Goals as goal

pub returns : goal.returns
returns c =
    let paths = c.args.paths.now in
    any_from_yields_List (λ path. has_ended path.now) _ _ _ c.any.ensures.ran (YieldsList-from_slice paths cc) (λ x b q k. search rules) ∙ any_now has_ended paths
