use Rattle.std.proofs.Common.{arith}
use Rattle.std.proofs.lemmas.Grind.{common_steps}
use Rattle.pocket_filter.proofs.Printing.{printed_and, printed_or}
use Rattle.pocket_filter.proofs.printer.+print.Goals as goal

pub print_expr-returns-in_ok-push_str-in-And : goal.print_expr-returns-in_ok-push_str-in-And
print_expr-returns-in_ok-push_str-in-And t c =
    let e = printed_and c.get-left.result.now c.get-right.result.now in
    grind (arith, common_steps)

pub print_expr-returns-in_ok-push_str-in-Or : goal.print_expr-returns-in_ok-push_str-in-Or
print_expr-returns-in_ok-push_str-in-Or t c =
    let e = printed_or c.get-left-in-Or.result.now c.get-right-in-Or.result.now in
    grind (arith, common_steps)
