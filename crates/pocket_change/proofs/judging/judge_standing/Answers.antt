use Rattle.std.specs.Option.{option_copied}
use Rattle.pocket_change.specs.Answers.{Gives}
use Rattle.pocket_change.specs.Plans.{judged}
use Rattle.pocket_change.proofs.StandingLemmas.{are_those, found_in, only_those}
use Rattle.pocket_change.proofs.judging.judge_standing.Goals as goal

pub judge-requires-clause-there : goal.judge-requires-clause-there
judge-requires-clause-there g c =
    let found = found_in _ _ _ _ c.collections.ensures.collections c.in-Some.ensures in
    (are_those _ _ _ _ _ c.requires.stands found c.in-Some-rec.ensures.rec).there

pub judge-requires-clause-sound : goal.judge-requires-clause-sound
judge-requires-clause-sound g c =
    let found = found_in _ _ _ _ c.collections.ensures.collections c.in-Some.ensures in
    (are_those _ _ _ _ _ c.requires.stands found c.in-Some-rec.ensures.rec).sound

pub judge-requires-clause-shape : goal.judge-requires-clause-shape
judge-requires-clause-shape g c =
    let found = found_in _ _ _ _ c.collections.ensures.collections c.in-Some.ensures in
    (are_those _ _ _ _ _ c.requires.stands found c.in-Some-rec.ensures.rec).shape

pub returns-clause-judged : goal.returns-clause-judged
returns-clause-judged g c = λ d r e q.
    let found = found_in _ _ _ _ c.collections.ensures.collections c.in-Some.ensures in
    only_those c.args.tables.now.world c.args.collection.now c.args.id c.in-Some.collection.now c.in-Some-rec.rec.now
    (λ k s. Gives c.judge.result (judged c.args.tables.now.world (option_copied c.args.creator) k s)) found c.in-Some-rec.ensures.rec d r e q c.judge.ensures.judged
