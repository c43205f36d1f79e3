use Rattle.pocket_json.proofs.ChoosingLemmas.{named_last}
use Rattle.pocket_json.proofs.laws.a_key_named_last_is_kept_whole.Goals as goal

pub returns : goal.returns
returns c = named_last
