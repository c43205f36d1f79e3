use Rattle.pocket_ops.proofs.LengthLemmas.{apart_more, not_apart}
use Rattle.pocket_ops.proofs.row_lengths.+are_apart.Goals as goal

pub returns-then-not-named : goal.returns-then-not-named
returns-then-not-named t c =
    apart_more c.in-Some.first.now c.in-Some.rest.now c.args.fields.now c.as_str.result.now c.has_name-named.result c.are_apart-apart.result c.in-Some.ensures.cases.0 c.as_str.ensures.text c.has_name-named.ensures
    c.if-not-named.true c.are_apart-apart.ensures

pub returns-else-not-named : goal.returns-else-not-named
returns-else-not-named t c =
    not_apart c.in-Some.first.now c.in-Some.rest.now c.args.fields.now c.as_str.result.now c.has_name-named.result c.in-Some.ensures.cases.0 c.as_str.ensures.text c.has_name-named.ensures
    c.if-not-named.false
