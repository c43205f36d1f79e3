use Rattle.std.proofs.Common.{◌∙◌, ap, sym}
use Rattle.std.specs.Prelude.{is_some}
use Rattle.pocket_types.specs.Order.{Rises}
use Rattle.pocket_tables.specs.Reads.{matching}
use Rattle.pocket_tables.specs.Worlds.{id_of}
use Rattle.pocket_check.proofs.JudgingLemmas.{itself_first, lent_there, matching_rise, no_match, other_first}
use Rattle.pocket_check.proofs.taken.has_another.Goals as goal

pub returns-in_default-clause-another : goal.returns-in_default-clause-another
returns-in_default-clause-another g c =
    let recs = matching c.args.tables.now.world c.args.collection.now.name c.args.field.now c.args.value.now in
    sym (no_match recs c.args.id c.in_default.ensures.rec)

pub returns-then-ne-clause-another : goal.returns-then-ne-clause-another
returns-then-ne-clause-another g c =
    let w = c.args.tables.now.world in
    let name = c.args.collection.now.name in
    let recs = matching w name c.args.field.now c.args.value.now in
    let rise : Rises id_of recs = matching_rise w name c.args.field.now c.args.value.now c.requires.tabled in
    sym (other_first recs c.args.id c.in-Some.first.now rise c.in-Some.ensures.rec (sym c.ne.ensures ∙ c.if-ne.true))

pub returns-clause-another : goal.returns-clause-another
returns-clause-another g c =
    let w = c.args.tables.now.world in
    let name = c.args.collection.now.name in
    let recs = matching w name c.args.field.now c.args.value.now in
    let rise : Rises id_of recs = matching_rise w name c.args.field.now c.args.value.now c.requires.tabled in
    c.is_some.ensures ∙ sym (lent_there c.match_after-2.result) ∙ ap is_some c.match_after-2.ensures.rec
    ∙ sym (itself_first recs c.args.id c.in-Some.first.now rise c.in-Some.ensures.rec (sym c.ne.ensures ∙ c.if-ne.false))
