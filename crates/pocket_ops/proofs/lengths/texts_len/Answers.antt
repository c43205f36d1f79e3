use Rattle.pocket_types.specs.Json.{quoted}
use Rattle.pocket_ops.proofs.LengthLemmas.{joined_more, listed_len-is}
use Rattle.pocket_ops.proofs.lengths.texts_len.Goals as goal

pub loop-i-preserved : goal.loop-i-preserved
loop-i-preserved g c =
    joined_more (λ x. quoted (g.T.Item.text x)) c.args.items.now c.loop-i.i c.index-items-i.result c.loop-i.len c.comma_len.result c.saturating_add-len.result c.text_len.result c.saturating_add-len-in-loop-i.result c.loop-i-test.true c.index-items-i.is
    c.loop-i.invariant c.comma_len.ensures c.saturating_add-len.ensures (rw c.as_str.ensures at c.text_len.ensures) c.saturating_add-len-in-loop-i.ensures

pub returns : goal.returns
returns g c =
    rw (← g.met.T.Item.texts_are c.args.items.now) (listed_len-is g.T.Item.text c.args.items.now c.loop-i.len c.loop-i.i c.loop-i.invariant c.loop-i-test.false)
