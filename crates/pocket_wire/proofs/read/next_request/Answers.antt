use Rattle.std.proofs.Common.{sym, subst, ◌∙◌}
use Rattle.pocket_wire.specs.Requests.{IsDecided}
use Rattle.pocket_wire.proofs.read.next_request.Goals as goal

pub returns-clause-still : goal.returns-clause-still
returns-clause-still g c = λ decided.
    c.read_next-next.ensures.still (subst IsDecided (sym (c.into_vec-bytes.ensures ∙ c.replace.ensures.value)) decided)
