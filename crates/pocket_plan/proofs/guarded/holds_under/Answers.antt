use Rattle.pocket_types.specs.World.{lent_world}
use Rattle.pocket_plan.proofs.Carried.{guarded_truth}
use Rattle.pocket_plan.proofs.guarded.holds_under.Goals as goal

pub returns : goal.returns
returns c =
    let s = c.args.scene.now in
    let e = guarded_truth (lent_world s.shelves.now) c.args.guard.now s.ask.now s.home.now s.rec.now c.truth_is_carried_over.ensures c.args.filter.now in
    rw e at c.is_true_in.ensures
