use Rattle.std.proofs.Common.{sym, ◌∙◌, arith}
use Rattle.std.proofs.lemmas.List.{take_rest}
use Rattle.pocket_filter.proofs.Texts.{text_found}
use Rattle.pocket_filter.proofs.lexer.quoted.Goals as goal

pub overflow_add-len : goal.overflow_add-len
overflow_add-len c =
    let found = rw (c.as_bytes-bytes.ensures.value, take_rest c.args.text.now 1) at (sym c.closing_quote.ensures ∙ c.in-Some.is) in
    let t = text_found c.args.text.now c.in-Some.inside c.utf8.text c.requires found in
    let within = t.0.within in
    omega arith

pub range-requires-clause-end_boundary : goal.range-requires-clause-end_boundary
range-requires-clause-end_boundary c =
    let found = rw (c.as_bytes-bytes.ensures.value, take_rest c.args.text.now 1) at (sym c.closing_quote.ensures ∙ c.in-Some.is) in
    (text_found c.args.text.now c.in-Some.inside c.utf8.text c.requires found).1
