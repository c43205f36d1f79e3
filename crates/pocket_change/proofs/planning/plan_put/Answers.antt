use Rattle.std.specs.Option.{option_copied}
use Rattle.pocket_change.proofs.PlanLemmas.{put_given, put_stands}
use Rattle.pocket_change.proofs.planning.plan_put.Goals as goal

pub judge_standing-judged-requires-clause-stands : goal.judge_standing-judged-requires-clause-stands
judge_standing-judged-requires-clause-stands g c =
    put_stands c.args.tables.now.world c.put_in.new.tables.world c.args.collection.now c.args.rec c.requires.sound c.requires.stands c.put_in.ensures.collections
    c.in-Ok.ensures.found

pub returns-clause-delta : goal.returns-clause-delta
returns-clause-delta g c =
    put_given c.args.tables.now.world c.args.collection.now (option_copied c.args.creator) c.args.rec c.put_in.new.tables.world c.judge_standing-judged.result _
    c.take_back.result
    (record {
      world = c.in-Ok.ensures.world;
      collections = c.put_in.ensures.collections;
      found = c.in-Ok.ensures.found;
      delta = c.in-Ok.ensures.again;
      told = c.take_back.ensures.delta;
    })
    c.judge_standing-judged.ensures.judged
