use Rattle.std.proofs.Common.{Ok}
use Rattle.pocket_read.proofs.TermLemmas.{bad_at_first}
use Rattle.pocket_read.proofs.terms.+with_terms.Goals as goal

pub returns-in-Err : goal.returns-in-Err
returns-in-Err t c known = bad_at_first c.args.collections.now c.args.purpose.now (Ok c.args.found.items) c.args.texts.now _ c.in-Err.fault c.in-len1-up.len_at_least (c.in-Err.ensures.terms known)
