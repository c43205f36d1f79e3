use Rattle.std.proofs.Common.{◌≡◌, take, length, slice_get, Some, sym, ap, ◌∙◌, rules}
use Rattle.std.proofs.lemmas.List.{map-id}
use Rattle.std.proofs.lemmas.Option.{slice_get-get_or}
use Rattle.std.proofs.lemmas.Iterator.Adapters.{YieldsList-from_vec}
use Rattle.std.proofs.lemmas.Iterator.Consumers.{YieldsList-so_far, YieldsList-turn}
use Rattle.pocket_sqlite.proofs.ReadingLemmas.{faulty_next}
use Rattle.pocket_sqlite.proofs.table.kept_rows.Goals as goal

pub returns-in_err-push_row-clause-faulty : goal.returns-in_err-push_row-clause-faulty
returns-in_err-push_row-clause-faulty c =
    let found = c.args.found.items in
    let done = c.loop-next.yielded in
    let next = c.in-Some.next in
    let road = YieldsList-from_vec {s = c.into_iter-next-iterator.result} found (search rules) (search rules) in
    let turn = YieldsList-turn road done c.loop-next.next-iterator c.loop-next.yielded_by c.next.result c.next.new.self next c.in-Some.is c.next.ensures.steps in
    let front : done ≡ take (length done) found = sym (map-id done) ∙ YieldsList-so_far road done c.loop-next.next-iterator c.loop-next.yielded_by in
    let at_next : slice_get found (length done) ≡ Some next =
    slice_get-get_or found (length done) next turn.0 ∙ ap Some (sym turn.1) in
    let faulty = faulty_next found done c.loop-next.rows next c.loop-next.invariant.read front at_next in
    search (rules, faulty)
