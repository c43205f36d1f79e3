use Rattle.pocket_plan.specs.Guarded.{world_behind}
use Rattle.pocket_plan.proofs.Shelves.{shelf_found}
use Rattle.pocket_plan.proofs.admitted.shelf_of.Goals as goal

pub returns : goal.returns
returns c =
    let g = c.args.guarded.now in
    shelf_found (world_behind g) g.guard.now g.scene.ask.now c.args.name.now _ c.shelf_in.ensures
