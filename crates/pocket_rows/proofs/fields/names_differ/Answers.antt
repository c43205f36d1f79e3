use Rattle.std.proofs.Common.{sym, subst, ◌≤◌}
use Rattle.std.proofs.lemmas.List.{length-map}
use Rattle.pocket_rows.proofs.DifferLemmas.{holds_none, holds_next, holds_twice, holds_whole}
use Rattle.pocket_rows.proofs.FieldLemmas.{names_of, name_here, names_apart}
use Rattle.pocket_rows.proofs.fields.names_differ.Goals as goal

pub loop-field-init : goal.loop-field-init
loop-field-init c = holds_none c.new-seen.result c.new-seen.ensures.empty

pub returns-then-not-branch : goal.returns-then-not-branch
returns-then-not-branch c =
    let fields = c.args.fields.now in
    let f = c.field-item.result in
    let here = name_here fields c.loop-field.field-index f c.loop-field-test.true c.field-item.is in
    names_apart fields _
    (holds_twice c.loop-field.seen (names_of fields) c.loop-field.field-index f.name c.as_str.result c.in_ok-insert.field-0 here.0 here.1 c.as_str.ensures.text c.loop-field.invariant c.in_ok-insert.ensures.added c.if-not-branch.true)

pub loop-field-preserved : goal.loop-field-preserved
loop-field-preserved c =
    let fields = c.args.fields.now in
    let f = c.field-item.result in
    let here = name_here fields c.loop-field.field-index f c.loop-field-test.true c.field-item.is in
    holds_next c.loop-field.seen c.insert.new.self (names_of fields) c.loop-field.field-index f.name c.as_str.result c.in_ok-insert.field-0 here.0 here.1 c.as_str.ensures.text c.loop-field.invariant c.in_ok-insert.ensures.added
    c.if-not-branch.false c.in_ok-insert.ensures.updates

pub returns : goal.returns
returns c =
    let fields = c.args.fields.now in
    names_apart fields _ (holds_whole c.loop-field.seen (names_of fields) c.loop-field.field-index (subst (λ n. n ≤ c.loop-field.field-index) (sym (length-map fields (λ f. f.name))) c.loop-field-test.false) c.loop-field.invariant)
