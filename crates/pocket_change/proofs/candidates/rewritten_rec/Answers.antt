use Rattle.std.proofs.Common.{◌∙◌, sym, subst}
use Rattle.std.specs.Option.{option_copied}
use Rattle.pocket_change.specs.Changes.{put_checked}
use Rattle.pocket_change.specs.Plans.{LeadsTo}
use Rattle.pocket_change.proofs.ChainLemmas.{updated_none, updated_old, updated_stops}
use Rattle.pocket_change.proofs.StandingLemmas.{rec_there, sound_there}
use Rattle.pocket_change.proofs.candidates.rewritten_rec.Goals as goal

pub returns-in-Err-clause-leads : goal.returns-in-Err-clause-leads
returns-in-Err-clause-leads g c = λ told.
    updated_stops c.args.tables.now.world c.args.ask.now c.args.collection.now c.args.id (option_copied c.args.body) c.in-Err.fault (c.in-Err.ensures.body told)

pub tree_rec-requires-clause-sound : goal.tree_rec-requires-clause-sound
tree_rec-requires-clause-sound g c = sound_there c.args.tables.now.world c.args.collection.now c.requires.sound c.requires.there

pub tree_rec-requires-clause-fit : goal.tree_rec-requires-clause-fit
tree_rec-requires-clause-fit g c =
    (rec_there c.args.tables.now.world c.args.collection.now c.args.id c.in-Some.old.now c.requires.sound c.requires.there (sym c.in-Some.ensures.rec)).0.cells

pub tree_refusal-requires-clause-sound : goal.tree_refusal-requires-clause-sound
tree_refusal-requires-clause-sound g c = sound_there c.args.tables.now.world c.args.collection.now c.requires.sound c.requires.there

pub returns-in-Some-clause-leads : goal.returns-in-Some-clause-leads
returns-in-Some-clause-leads g c =
    let w = c.args.tables.now.world in
    let same = updated_old w c.args.ask.now c.args.collection.now c.args.id (option_copied c.args.body) c.in-Ok.tree.now c.in-Some.old.now c.in-Ok.ensures.body (sym c.in-Some.ensures.rec) in
    subst (LeadsTo (put_checked w c.args.collection.now) c.tree_rec.result) (sym same) c.tree_rec.ensures.leads

pub returns-in-None-clause-leads : goal.returns-in-None-clause-leads
returns-in-None-clause-leads g c = λ told.
    updated_none c.args.tables.now.world c.args.ask.now c.args.collection.now c.args.id (option_copied c.args.body) c.in-Ok.tree.now c.in-Ok.ensures.body (sym c.in-None.ensures.rec)
    ∙ c.tree_refusal.ensures told
