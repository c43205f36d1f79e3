use Rattle.pocket_change.proofs.StandingLemmas.{found_in, sound_found}
use Rattle.pocket_change.proofs.planning.refuse_update.Goals as goal

pub refusal-requires-clause-sound : goal.refusal-requires-clause-sound
refusal-requires-clause-sound c =
    let found = found_in c.args.tables.now.world c.collections.result.now c.args.collection.now c.in-Some.collection.now c.collections.ensures.collections c.in-Some.ensures in
    sound_found c.args.tables.now.world c.args.collection.now c.in-Some.collection.now c.requires.sound found
