use Rattle.std.proofs.lemmas.Str.{IsUtf8-from_ascii}
use Rattle.pocket_types.proofs.Bytes.{id_is_ascii}
use Rattle.pocket_types.proofs.ids.Id.as_str.Goals as goal

pub returns-in-Err : goal.returns-in-Err
returns-in-Err c = absurd (c.in-Err.ensures.cases.0 (IsUtf8-from_ascii _ (id_is_ascii _ c.self.invariant)))
