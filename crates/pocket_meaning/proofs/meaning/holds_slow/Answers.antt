use Rattle.std.proofs.Common.{ap}
use Rattle.pocket_types.specs.declared.world.World.{World}
use Rattle.pocket_meaning.proofs.meaning.holds_slow.Goals as goal

pub returns : goal.returns
unfolding Rattle.pocket_meaning.specs.Meaning.holds
returns c =
    let shelves = ap (λ (w : World). w.shelves) c.in_ok-shelves.ensures in
    rw (c.as_slice.ensures.value, shelves) at c.is_true_in.ensures
