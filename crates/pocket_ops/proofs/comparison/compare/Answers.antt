use Rattle.std.proofs.Common.{◌≡◌, sym, ◌∙◌, rules}
use Rattle.std.specs.Ordering.{is_some_and, is_eq}
use Rattle.pocket_ops.specs.Comparison.{or_empty, order_of}
use Rattle.pocket_ops.proofs.Orders.{equal_is_same, same_is_equal}
use Rattle.pocket_ops.proofs.comparison.compare.Goals as goal

pub returns-in-Eq-clause-equal : goal.returns-in-Eq-clause-equal
returns-in-Eq-clause-equal c =
    λ _.
    let a = or_empty c.args.a.now in
    let b = or_empty c.args.b.now in
    let is : c.is_some_and.result ≡ is_some_and is_eq (order_of a b) = search rules in
    (λ t. equal_is_same a b (sym is ∙ t), λ same. is ∙ same_is_equal a b same)
