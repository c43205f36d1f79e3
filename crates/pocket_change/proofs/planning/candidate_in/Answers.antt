use Rattle.std.specs.Option.{option_copied}
use Rattle.pocket_change.specs.Changes.{created}
use Rattle.pocket_change.specs.Plans.{LeadsTo, admitted_put}
use Rattle.pocket_change.specs.declared.candidates.Candidate.{Candidate}
use Rattle.pocket_change.proofs.StandingLemmas.{found_in, only_found, sound_found}
use Rattle.pocket_change.proofs.planning.candidate_in.Goals as goal

pub body_candidate-requires-clause-sound : goal.body_candidate-requires-clause-sound
body_candidate-requires-clause-sound g c =
    let found = found_in c.args.tables.now.world c.collections.result.now c.args.collection.now c.in-Some.collection.now c.collections.ensures.collections c.in-Some.ensures in
    sound_found c.args.tables.now.world c.args.collection.now c.in-Some.collection.now c.requires.sound found

pub returns-clause-leads : goal.returns-clause-leads
returns-clause-leads g c = λ d e.
    let found = found_in c.args.tables.now.world c.collections.result.now c.args.collection.now c.in-Some.collection.now c.collections.ensures.collections c.in-Some.ensures in
    only_found c.args.tables.now.world c.args.collection.now c.in-Some.collection.now
    (λ k. LeadsTo (λ (x : Candidate). admitted_put c.args.tables.now.world x.ask k x.rec) c.body_candidate.result
    (created c.args.tables.now.world c.args.ask.now k (option_copied c.args.body) c.args.words)) found d e c.body_candidate.ensures.leads
