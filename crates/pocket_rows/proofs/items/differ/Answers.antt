use Rattle.pocket_rows.proofs.DifferLemmas.{holds_none, holds_next, holds_twice, holds_whole}
use Rattle.pocket_rows.proofs.items.differ.Goals as goal

pub loop-item-init : goal.loop-item-init
loop-item-init c = holds_none c.new-seen.result c.new-seen.ensures.empty

pub returns-then-not-branch : goal.returns-then-not-branch
returns-then-not-branch c =
    holds_twice c.loop-item.seen c.args.items.now c.loop-item.item-index c.item-item.result c.as_str.result c.in_ok-insert.field-0 c.loop-item-test.true c.item-item.is c.as_str.ensures c.loop-item.invariant c.in_ok-insert.ensures.added c.if-not-branch.true

pub loop-item-preserved : goal.loop-item-preserved
loop-item-preserved c =
    holds_next c.loop-item.seen c.insert.new.self c.args.items.now c.loop-item.item-index c.item-item.result c.as_str.result c.in_ok-insert.field-0 c.loop-item-test.true c.item-item.is c.as_str.ensures c.loop-item.invariant c.in_ok-insert.ensures.added
    c.if-not-branch.false c.in_ok-insert.ensures.updates

pub returns : goal.returns
returns c = holds_whole c.loop-item.seen c.args.items.now c.loop-item.item-index c.loop-item-test.false c.loop-item.invariant
