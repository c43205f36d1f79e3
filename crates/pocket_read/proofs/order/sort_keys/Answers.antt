use Rattle.std.proofs.Common.{◌≡◌, rules, is_lt}
use Rattle.std.proofs.lemmas.Fn.{always_returns_same}
use Rattle.std.proofs.lemmas.Result.{on_ok_weaker}
use Rattle.pocket_read.specs.Sorting.{stands_before}
use Rattle.pocket_read.proofs.Orders.{key_order}
use Rattle.pocket_read.proofs.Sorted.{sort_gives}
use Rattle.pocket_read.proofs.order.sort_keys.Goals as goal

pub returns : goal.returns
returns c =
    let terms = c.args.terms.now in
    let answers = always_returns_same _ (λ a r. is_lt r ≡ stands_before terms a.0.now a.1.0.now) _ (λ a r f k. search rules) in
    on_ok_weaker c.sort_by.result
    (λ sorted. sort_gives (stands_before terms) (key_order terms) _ _ (sorted (stands_before terms) (key_order terms) answers) (c.sort_by.ensures.stable (stands_before terms) (key_order terms) answers))
    c.sort_by.ensures.sorted
