-- Deltas applied one after the other.
use Rattle.std.specs.Prelude.{◌≡◌, List, [], ◌∷◌}
use Rattle.pocket_types.specs.declared.deltas.Delta.{Delta}
use Rattle.pocket_types.specs.declared.world.World.{World}
use Rattle.pocket_tables.specs.Deltas.{FitsWorld, world_after}
use Rattle.pocket_tables.specs.Kept.{IsReady, Kept}

-- the world after deltas, one after the other
abbrev pub world_after_all : List Delta → World → World
world_after_all [] w = w
world_after_all (d ∷ deltas) w = world_after_all deltas (world_after d w)

-- each delta fits and is ready in the world after those before it
abbrev pub AreReadyInTurn : Kept → List Delta → Type 0
AreReadyInTurn kept [] = Unit {0}
AreReadyInTurn kept (d ∷ deltas) = FitsWorld d kept.world × IsReady kept d × AreReadyInTurn (record kept { world = world_after d kept.world }) deltas

-- the deltas are ready one after the other, and lead to this world
pub record LeadTo (kept : Kept) (deltas : List Delta) (w : World) : Type 0 where
  pub ready : AreReadyInTurn kept deltas
  pub end : world_after_all deltas kept.world ≡ w
