use Rattle.pocket_api.proofs.NumberLemmas.{ten_power}
use Rattle.pocket_api.proofs.query.query_number.Goals as goal

pub returns-in-None-clause-bound : goal.returns-in-None-clause-bound
returns-in-None-clause-bound c = ten_power c.args.most
