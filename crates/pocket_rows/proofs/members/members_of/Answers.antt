use Rattle.pocket_rows.proofs.RecLemmas.{map_read}
use Rattle.pocket_rows.proofs.members.members_of.Goals as goal

pub returns : goal.returns
returns c =
    let h = rw c.in-Some.is at c.in_ok-tree.ensures in
    map_read c.args.text.now c.in-Some.tree h c.map_members.result c.map_members.ensures
