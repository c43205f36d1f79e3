use Rattle.std.proofs.Common.{◌≤◌, length, [], sym, ◌∙◌, ap, arith}
use Rattle.pocket_wire.proofs.Fields.{lines_are, few_fields}
use Rattle.pocket_wire.proofs.head.head_spans.Goals as goal

pub returns-in_default-clause-none : goal.returns-in_default-clause-none
returns-in_default-clause-none c = λ h is.
    let few = few_fields c.args.lines.now h is c.requires in
    let room : length h.fields ≤ length c.args.fields.now = omega (arith, few, c.told-fields) in
    let e = rw c.in-Ok-Complete.field-0-is at c.in-Ok-Complete.ensures in
    let found = e.found h [] is room in
    c.if-head-lines.false (found.len ∙ sym (ap length (lines_are c.args.lines.now h is)))

pub returns-in_default-3-clause-none : goal.returns-in_default-3-clause-none
returns-in_default-3-clause-none c = λ h is.
    let few = few_fields c.args.lines.now h is c.requires in
    let room : length h.fields ≤ length c.args.fields.now = omega (arith, few, c.told-fields) in
    let found = rw c.in_default.is at c.parse_request.ensures.found in
    found h [] is room
