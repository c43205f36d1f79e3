use Rattle.pocket_resolve.proofs.ViaLemmas.{split_is_cut}
use Rattle.pocket_resolve.proofs.names.cut_at_via.Goals as goal

pub returns : goal.returns
returns c = split_is_cut c.args.name.now c.split_once.result c.split_once.ensures.cases
