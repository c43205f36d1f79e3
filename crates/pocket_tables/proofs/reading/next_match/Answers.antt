use Rattle.std.proofs.Common.{◌∙◌, sym, ap}
use Rattle.std.specs.Prelude.{find}
use Rattle.pocket_tables.specs.Reads.{has_value, is_above}
use Rattle.pocket_tables.proofs.ReadLemmas.{find-filter}
use Rattle.pocket_tables.proofs.reading.next_match.Goals as goal

pub returns : goal.returns
returns c =
    c.first_match.ensures ∙ ap (find (has_value c.args.collection.now c.args.field.now c.args.value.now)) c.recs_above.ensures
    ∙ sym (find-filter (is_above c.args.after) (has_value c.args.collection.now c.args.field.now c.args.value.now) c.args.recs.now)
