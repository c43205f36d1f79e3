-- Deltas that follow one another, and the stack of their inverses.
use Rattle.std.proofs.Common.{◌≡◌, List, [], ◌∷◌, sym, ◌∙◌, ap, subst}
use Rattle.pocket_types.specs.declared.world.World.{World}
use Rattle.pocket_types.specs.declared.deltas.Delta.{Delta}
use Rattle.pocket_tables.specs.Deltas.{FitsWorld, world_after}
use Rattle.pocket_tables.specs.Kept.{Kept, IsReady, KeepsReady}
use Rattle.pocket_tables.specs.Following.{AreReadyInTurn, LeadTo, world_after_all}

-- deltas that were ready in turn are so where what was ready stays so
ready_in_turn_kept : (old new : Kept) (deltas : List Delta) → KeepsReady old new → new.world ≡ old.world → AreReadyInTurn old deltas → AreReadyInTurn new deltas
ready_in_turn_kept old new [] kept same h = h
ready_in_turn_kept old new (d ∷ deltas) kept same h = (
  subst (λ v. FitsWorld d v) (sym same) h.0,
  subst (λ v. IsReady (record new { world = v }) d) (sym same) (kept old.world d h.1),
  ready_in_turn_kept (record old { world = world_after d old.world }) (record new { world = world_after d new.world }) deltas kept (ap (world_after d) same) h.2,
)

pub lead_kept : (old new : Kept) (deltas : List Delta) (w : World) → KeepsReady old new → new.world ≡ old.world → LeadTo old deltas w → LeadTo new deltas w
lead_kept old new deltas w kept same h = record { ready = ready_in_turn_kept old new deltas kept same h.ready; end = ap (world_after_all deltas) same ∙ h.end }

-- one inverse more
pub lead_more : (old new : Kept) (d : Delta) (deltas : List Delta) (w : World) → KeepsReady old new
    → FitsWorld d new.world → IsReady new d → world_after d new.world ≡ old.world → LeadTo old deltas w → LeadTo new (d ∷ deltas) w
lead_more old new d deltas w kept fits ready leads h =
    let rest = lead_kept old (record new { world = world_after d new.world }) deltas w kept leads h in
    record { ready = (fits, ready, rest.ready); end = rest.end }

-- one inverse less
pub lead_less : (old new : Kept) (d : Delta) (deltas : List Delta) (w : World) → KeepsReady old new → new.world ≡ world_after d old.world
    → LeadTo old (d ∷ deltas) w → LeadTo new deltas w
lead_less old new d deltas w kept is h = record {
  ready = ready_in_turn_kept (record old { world = world_after d old.world }) new deltas kept is h.ready.2;
  end = ap (world_after_all deltas) is ∙ h.end;
}

pub keeps_ready_twice : (a b c : Kept) → KeepsReady a b → KeepsReady b c → KeepsReady a c
keeps_ready_twice a b c h k = λ w d r. k w d (h w d r)
