use Rattle.std.proofs.Common.{◌∙◌, ap}
use Rattle.std.specs.Option.{option_copied}
use Rattle.pocket_types.specs.Json.{printed, printed_member, quoted}
use Rattle.pocket_tables.specs.Fronts.{then_behind}
use Rattle.pocket_tables.proofs.FrontLemmas.{items_done, item_more, member_done}
use Rattle.pocket_tables.proofs.fronts.+behind.Goals as goal

pub behind_items-loop-i-preserved : goal.behind_items-loop-i-preserved
behind_items-loop-i-preserved t c =
    item_more printed 91 c.args.items.now c.loop-i.i c.index-items-i.result (option_copied c.args.text) (option_copied c.loop-i.rest) (option_copied c.behind_comma-before.result) (option_copied c.behind_tree-rest.result)
    c.loop-i-test.true c.index-items-i.is c.loop-i.invariant c.behind_comma-before.ensures c.behind_tree-rest.ensures

pub behind_items-returns : goal.behind_items-returns
behind_items-returns t c =
    items_done printed 91 93 c.args.items.now c.loop-i.i (option_copied c.args.text) (option_copied c.loop-i.rest) (option_copied c.behind.result) c.loop-i-test.false c.loop-i.invariant c.behind.ensures

pub behind_members-loop-i-preserved : goal.behind_members-loop-i-preserved
behind_members-loop-i-preserved t c =
    let m = c.index-members-i.result in
    item_more printed_member 123 c.args.members.now c.loop-i.i m (option_copied c.args.text) (option_copied c.loop-i.rest) (option_copied c.behind_comma.result) (option_copied c.behind_tree-rest.result)
    c.loop-i-test.true c.index-members-i.is c.loop-i.invariant c.behind_comma.ensures
    (member_done m (option_copied c.behind_comma.result) (option_copied c.behind_string-key.result) (option_copied c.behind.result) (option_copied c.behind_tree-rest.result)
    (c.behind_string-key.ensures ∙ ap (λ k. then_behind (quoted k) (option_copied c.behind_comma.result)) c.as_str.ensures) c.behind.ensures c.behind_tree-rest.ensures)

pub behind_members-returns : goal.behind_members-returns
behind_members-returns t c =
    items_done printed_member 123 125 c.args.members.now c.loop-i.i (option_copied c.args.text) (option_copied c.loop-i.rest) (option_copied c.behind-2.result) c.loop-i-test.false c.loop-i.invariant c.behind-2.ensures
