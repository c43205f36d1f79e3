use Rattle.std.proofs.Common.{arith}
use Rattle.std.proofs.lemmas.Grind.{common_steps}
use Rattle.pocket_types.specs.World.{lent_shelf}
use Rattle.pocket_meaning.specs.Related.{shelf_member}
use Rattle.pocket_meaning.proofs.ListLemmas.{filter_map_more}
use Rattle.pocket_plan.specs.Guarded.{admitted_of}
use Rattle.pocket_plan.proofs.admitted.add_named.Goals as goal
use Rattle.pocket_plan.proofs.admitted.add_named.Goals.{in-Some+in_ok-push, in_default}

pub loop-id-preserved : goal.loop-id-preserved
loop-id-preserved c =
    let m = filter_map_more (shelf_member (admitted_of c.args.guarded.now (lent_shelf c.args.shelf))) _ _ c.id-item.result c.loop-id-test.true c.id-item.is in
    elim c.match-branch-2.branch [ in-Some+in_ok-push w ↦ grind (arith, common_steps) | in_default w ↦ grind (arith, common_steps) ]
