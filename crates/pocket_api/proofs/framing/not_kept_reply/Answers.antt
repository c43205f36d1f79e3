use Rattle.std.proofs.Common.{refl}
use Rattle.std.specs.Fmt.{digits}
use Rattle.pocket_wire.specs.Phrases.{phrase, status_line}
use Rattle.pocket_api.proofs.framing.not_kept_reply.Goals as goal

pub returns-then-close : goal.returns-then-close
unfolding digits phrase status_line
returns-then-close c = rw c.if-close.true refl

pub returns-else-close : goal.returns-else-close
unfolding digits phrase status_line
returns-else-close c = rw c.if-close.false refl
