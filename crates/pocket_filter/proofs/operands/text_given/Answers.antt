use Rattle.std.proofs.Common.{◌≡◌, ◌-◌, length, take, drop, slice_index, IfOk, ◌∙◌, ap, subst, arith}
use Rattle.pocket_filter.specs.Operands.{unescaped, inner}
use Rattle.pocket_filter.proofs.operands.text_given.Goals as goal

pub returns-in-Some : goal.returns-in-Some
returns-in-Some c =
    let written = c.args.written.now in
    let quote = c.byte_at-quote.ensures ∙ ap (λ s. slice_index s 0) c.as_bytes.ensures.value in
    let short : c.saturating_sub-end.result - 1 ≡ length written - 2 = omega arith in
    let inside : c.in-Some.inside.now ≡ inner written = c.in-Some.ensures.cases.0 ∙ ap (λ n. take n (drop 1 written)) short in
    subst (λ s. IfOk c.unescape.result (λ text. text ≡ unescaped (slice_index written 0) s)) inside
    (subst (λ q. IfOk c.unescape.result (λ text. text ≡ unescaped q c.in-Some.inside.now)) quote c.unescape.ensures)
