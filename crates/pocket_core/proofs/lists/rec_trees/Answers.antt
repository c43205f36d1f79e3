use Rattle.std.proofs.Common.{arith}
use Rattle.std.proofs.lemmas.Grind.{common_steps}
use Rattle.pocket_core.proofs.ListLemmas.{rec_trees_more}
use Rattle.pocket_core.proofs.lists.rec_trees.Goals as goal
use Rattle.pocket_core.proofs.lists.rec_trees.Goals.{in-Some+in_ok-push_rec, in_default}

pub loop-id-preserved : goal.loop-id-preserved
loop-id-preserved g c =
    let more = rec_trees_more c.args.tables.now.world c.args.ask.now c.args.collection.now c.args.display.now _ _ c.id-item.result c.loop-id-test.true c.id-item.is in
    record {
      trees = elim c.match-rec.branch [ in-Some+in_ok-push_rec w ↦ grind (arith, common_steps) | in_default w ↦ grind (arith, common_steps) ];
      steps = elim c.match-rec.branch [ in-Some+in_ok-push_rec w ↦ grind (arith, common_steps) | in_default w ↦ grind (arith, common_steps) ];
    }
