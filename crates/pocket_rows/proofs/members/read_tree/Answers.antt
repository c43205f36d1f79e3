use Rattle.pocket_rows.proofs.RecLemmas.{no_tree, tree_is}
use Rattle.pocket_rows.proofs.members.read_tree.Goals as goal

pub returns-in-Ok : goal.returns-in-Ok
returns-in-Ok c = tree_is c.args.text.now c.as_bytes.result.now c.in-Ok.tree c.as_bytes.ensures.value c.in-Ok.ensures.ok c.in-Ok.ensures.profile

pub returns-in-Err-BadJson : goal.returns-in-Err-BadJson
returns-in-Err-BadJson c = no_tree c.args.text.now c.as_bytes.result.now c.utf8.text c.as_bytes.ensures.value (c.in-Err-BadJson.ensures.bad cc)
