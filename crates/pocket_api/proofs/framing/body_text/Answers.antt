use Rattle.std.proofs.Common.{refl}
use Rattle.std.specs.Fmt.{digits}
use Rattle.pocket_api.proofs.framing.body_text.Goals as goal

pub returns-in-NoMemory : goal.returns-in-NoMemory
unfolding digits
returns-in-NoMemory c = rw c.in-NoMemory.is refl

pub returns-in-NotKept : goal.returns-in-NotKept
unfolding digits
returns-in-NotKept c = rw c.in-NotKept.is refl
