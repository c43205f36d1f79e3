use Rattle.std.proofs.Common.{sym, ◌∙◌}
use Rattle.pocket_ops.proofs.Searches.{goes_over}
use Rattle.pocket_ops.proofs.likeness.pass.Goals as goal

pub returns-in-Some : goal.returns-in-Some
returns-in-Some c =
    let s = c.args.search in
    goes_over s.anywhere s.here s.back c.args.byte c.in-Some.first.now c.args.pattern c.in-Some.text c.requires.byte.0 c.requires.byte.1
    c.in-Some.ensures.cases.0 (sym c.eq_ignore_ascii_case.ensures ∙ c.if-eq_ignore_ascii_case.true) c.requires.passed
