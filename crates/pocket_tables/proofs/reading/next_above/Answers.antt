use Rattle.std.proofs.Common.{◌∙◌, sym, ap}
use Rattle.std.specs.Prelude.{slice_get}
use Rattle.pocket_tables.specs.Reads.{is_above}
use Rattle.pocket_tables.proofs.ReadLemmas.{find_first}
use Rattle.pocket_tables.proofs.reading.next_above.Goals as goal

pub returns : goal.returns
returns c = c.first.ensures.value ∙ ap (λ recs. slice_get recs 0) c.recs_above.ensures ∙ sym (find_first (is_above c.args.after) c.args.recs.now)
