use Rattle.std.proofs.Common.{Ok, ◌∙◌, ap, arith, lt-ltb}
use Rattle.std.proofs.lemmas.Bool.{le-ltb}
use Rattle.pocket_types.specs.Chains.{◌>>=◌, refuse}
use Rattle.pocket_types.specs.declared.faults.FilterFault.TheVariants as fault
use Rattle.pocket_filter.proofs.Counted.{parsed_counted}
use Rattle.pocket_filter.proofs.reading.read.Goals as goal

pub returns-then-count_comparisons-gt-MAX_COMPARISONS :
    goal.returns-then-count_comparisons-gt-MAX_COMPARISONS
returns-then-count_comparisons-gt-MAX_COMPARISONS c other =
    let tree = c.in_ok-tree.tree in
    let n = c.count_comparisons.result in
    let value = parsed_counted c.args.text.now c.in_ok-tokens.tokens.items c.deref.result.now c.deref-2.result.now c.deref-3.result.now c.is_too_deep.result tree n (omega arith) c.in_ok-tokens.ensures
    c.deref.ensures.value c.is_too_deep.ensures c.if-is_too_deep.false c.deref-2.ensures.value c.in_ok-tree.ensures c.deref-3.ensures.value c.count_comparisons.ensures
    in
    value ∙ ap (λ b. refuse b fault.TooMany >>= λ _. Ok tree) (lt-ltb 100 n (omega arith))

pub returns : goal.returns
returns c =
    let tree = c.in_ok-tree.tree in
    let n = c.count_comparisons.result in
    let value = parsed_counted c.args.text.now c.in_ok-tokens.tokens.items c.deref.result.now c.deref-2.result.now c.deref-3.result.now c.is_too_deep.result tree n (omega arith) c.in_ok-tokens.ensures
    c.deref.ensures.value c.is_too_deep.ensures c.if-is_too_deep.false c.deref-2.ensures.value c.in_ok-tree.ensures c.deref-3.ensures.value c.count_comparisons.ensures
    in
    value ∙ ap (λ b. refuse b fault.TooMany >>= λ _. Ok tree) (le-ltb 100 n (omega arith))
