use Rattle.std.proofs.Common.{◌≤◌, length, sym, subst}
use Rattle.pocket_filter.specs.Filters.{IsFilter}
use Rattle.pocket_filter.proofs.PrintedLexing.{printed_is_filter}
use Rattle.pocket_filter.proofs.printer.printed_filter_is_read.Goals as goal

pub returns : goal.returns
returns c =
    let tree = c.args.expr.now in
    let short = subst (λ s. length s ≤ 3500) c.requires.text c.requires.short in
    subst (λ s. IsFilter s tree) (sym c.requires.text) (printed_is_filter c.requires.read.0 tree c.requires.read.1 short)
