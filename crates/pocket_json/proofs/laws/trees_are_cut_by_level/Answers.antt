use Rattle.pocket_json.proofs.ChoosingLemmas.{by_level}
use Rattle.pocket_json.proofs.laws.trees_are_cut_by_level.Goals as goal

pub returns : goal.returns
returns c = by_level
