use Rattle.pocket_store.proofs.RuleLemmas.{no_tree, one_tree}
use Rattle.pocket_store.proofs.rules.read_filter.Goals as goal

pub returns-in-Ok : goal.returns-in-Ok
returns-in-Ok c =
    let answers = rw c.as_str.ensures at c.in-Ok.ensures.only in
    one_tree c.args.text.now c.in-Ok.tree answers (rw c.as_str.ensures at c.in-Ok.ensures.ok)

pub returns-else-parse_lacks_memory : goal.returns-else-parse_lacks_memory
returns-else-parse_lacks_memory c =
    let answers = rw c.as_str.ensures at c.in-Err.ensures.only in
    no_tree c.args.text.now c.in-Err.fault (rw c.if-parse_lacks_memory.false at c.parse_lacks_memory.ensures) answers
