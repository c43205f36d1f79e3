use Rattle.std.proofs.Common.{refl}
use Rattle.pocket_wire.specs.Phrases.{phrase}
use Rattle.pocket_wire.proofs.Statuses.{has_no_phrase}
use Rattle.pocket_wire.proofs.refusal.status_phrase.Goals as goal

pub returns-in-Err : goal.returns-in-Err
unfolding phrase
returns-in-Err c = rw (has_no_phrase c.args.status c.in-Err.ensures) refl
