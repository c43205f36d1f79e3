use Rattle.pocket_json.proofs.ChoosingLemmas.{star_keeps}
use Rattle.pocket_json.proofs.laws.a_star_keeps_all_others_whole.Goals as goal

pub returns : goal.returns
returns c = star_keeps
