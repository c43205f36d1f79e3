use Rattle.pocket_types.specs.Json.{printed, printed_member}
use Rattle.pocket_ops.proofs.LengthLemmas.{joined_more, member_len-is}
use Rattle.pocket_ops.proofs.lengths.+len.Goals as goal

pub items_len-loop-i-preserved : goal.items_len-loop-i-preserved
items_len-loop-i-preserved t c =
    joined_more printed c.args.items.now c.loop-i.i c.index-items-i.result c.loop-i.len c.comma_len.result c.saturating_add-len.result c.tree_len.result c.saturating_add-len-in-loop-i.result c.loop-i-test.true c.index-items-i.is
    c.loop-i.invariant c.comma_len.ensures c.saturating_add-len.ensures c.tree_len.ensures c.saturating_add-len-in-loop-i.ensures

pub members_len-loop-i-preserved : goal.members_len-loop-i-preserved
members_len-loop-i-preserved t c =
    let m = c.index-members-i.result in
    joined_more printed_member c.args.members.now c.loop-i.i m c.loop-i.len c.comma_len.result c.saturating_add-len.result c.member_len.result c.saturating_add-len-in-loop-i.result c.loop-i-test.true c.index-members-i.is
    c.loop-i.invariant c.comma_len.ensures c.saturating_add-len.ensures (member_len-is m c.member_len.result c.as_str.result.now c.as_str.ensures (c.member_len.ensures (printed m.value) c.tree_len.ensures)) c.saturating_add-len-in-loop-i.ensures
