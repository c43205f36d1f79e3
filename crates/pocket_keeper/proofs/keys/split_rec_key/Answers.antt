use Rattle.std.proofs.Common.{arith}
use Rattle.std.proofs.lemmas.Str.Pattern.{split_parts}
use Rattle.pocket_keeper.proofs.KeyLemmas.{key_split}
use Rattle.pocket_keeper.proofs.keys.split_rec_key.Goals as goal

pub returns : goal.returns
returns c = key_split _ _ _ c.in_ok-rest.ensures (split_parts _ _ _ c.split_once.ensures.cases (omega arith))
