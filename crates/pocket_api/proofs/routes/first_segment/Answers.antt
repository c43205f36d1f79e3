use Rattle.pocket_api.proofs.PathLemmas.{no_slash, one_more}
use Rattle.pocket_api.proofs.routes.first_segment.Goals as goal

pub returns-in-Some-clause-first : goal.returns-in-Some-clause-first
returns-in-Some-clause-first c = one_more c.args.path.now c.in-Some.segment c.in-Some.rest c.in-Some.ensures.cases

pub returns-in-None-clause-first : goal.returns-in-None-clause-first
returns-in-None-clause-first c = no_slash c.args.path.now c.in-None.ensures.cases
