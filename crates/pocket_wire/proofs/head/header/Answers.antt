use Rattle.std.proofs.Common.{sym, ◌∙◌}
use Rattle.pocket_wire.proofs.Headers.{header_of-text, header_of-none}
use Rattle.pocket_wire.proofs.head.header.Goals as goal

pub returns-in_default : goal.returns-in_default
returns-in_default c = sym (header_of-none _ _ (rw c.of.ensures at c.in_default.ensures.cases.0))

pub returns : goal.returns
returns c =
    let text = rw c.of.ensures at c.in-Ok.ensures.cases in
    sym (header_of-text _ _ _ _ text.1 (c.in_ok-name.ensures ∙ c.of-2.ensures) (c.in_ok-value.ensures ∙ text.0))
