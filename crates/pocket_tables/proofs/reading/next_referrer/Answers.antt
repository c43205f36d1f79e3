use Rattle.std.proofs.Common.{◌∙◌, sym, ap}
use Rattle.std.specs.Prelude.{find}
use Rattle.pocket_tables.specs.Reads.{holds_id, is_above}
use Rattle.pocket_tables.proofs.ReadLemmas.{find-filter}
use Rattle.pocket_tables.proofs.reading.next_referrer.Goals as goal

pub returns : goal.returns
returns c =
    c.first_referrer.ensures ∙ ap (find (holds_id c.args.collection.now c.args.field.now c.args.target)) c.recs_above.ensures
    ∙ sym (find-filter (is_above c.args.after) (holds_id c.args.collection.now c.args.field.now c.args.target) c.args.recs.now)
