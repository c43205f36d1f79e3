use Rattle.std.proofs.Common.{◌≡◌, ◌||◌, ◌==◌, length, true, sym, ◌∙◌, ap}
use Rattle.pocket_ops.proofs.Searches.{goes_into, matches_at_end}
use Rattle.pocket_ops.proofs.likeness.advance.Goals as goal
use Rattle.pocket_ops.proofs.likeness.advance.Goals.{then-search, else-search}

pub returns-in-Some-Any-default : goal.returns-in-Some-Any-default
returns-in-Some-Any-default c =
    let s = c.args.search in
    let arm = c.in-Some-Any-default in
    goes_into s.anywhere s.here s.back arm.pattern (rw arm.field-0-0-is at arm.ensures.0) arm.ensures.1 c.requires

pub returns-then-is_empty : goal.returns-then-is_empty
returns-then-is_empty c =
    let s = c.args.search in
    let done : s.anywhere || (length s.here.text.now == 0) ≡ true =
    elim c.if-search.branch [
      | then-search w ↦ ap (λ b. b || (length s.here.text.now == 0)) w.if-search.true
      | else-search w ↦ ap (λ b. b || (length s.here.text.now == 0)) w.if-search.false ∙ sym w.is_empty.ensures ∙ sym w.value-is ∙ c.if-is_empty.true
    ] in
    sym (matches_at_end s.anywhere s.here s.back c.in-None.ensures done)
