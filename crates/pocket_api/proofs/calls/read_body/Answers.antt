use Rattle.std.proofs.Common.{sym}
use Rattle.pocket_api.proofs.BodyLemmas.{no_tree, tree_read}
use Rattle.pocket_api.proofs.calls.read_body.Goals as goal

pub returns-in-Ok : goal.returns-in-Ok
returns-in-Ok c = rw c.new.ensures (sym (tree_read c.args.bytes.now c.in-Ok.tree c.in-Ok.ensures.ok))

pub returns-in-Err-BadJson : goal.returns-in-Err-BadJson
returns-in-Err-BadJson c = sym (no_tree c.args.bytes.now (c.in-Err-BadJson.ensures.bad (cc c.in-Err-BadJson.field-0-is)))
