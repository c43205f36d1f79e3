use Rattle.pocket_store.proofs.RuleLemmas.{no_resolved}
use Rattle.pocket_store.proofs.rules.tree_resolves.Goals as goal

pub returns : goal.returns
returns c =
    no_resolved c.args.collections.now c.args.purpose.now c.args.tree.now c.in-Err.fault
    (c.in-Err.ensures.fault (rw c.if-resolve_lacks_memory.false at c.resolve_lacks_memory.ensures))
