-- The shelves of a world with the records that a guard admits.
use Rattle.std.proofs.Common.{◌≡◌, refl, sym, ap, ◌∙◌}
use Rattle.std.specs.Prelude.{Option, Some, None, option_map}
use Rattle.pocket_types.specs.World.{shelf_named, lent_shelf}
use Rattle.pocket_types.specs.declared.names.Name.{Name}
use Rattle.pocket_types.specs.declared.requests.Ask.{Ask}
use Rattle.pocket_types.specs.declared.world.LentShelf.{LentShelf}
use Rattle.pocket_types.specs.declared.world.Shelf.{Shelf}
use Rattle.pocket_types.specs.declared.world.World.{World}
use Rattle.pocket_plan.specs.Cutting.{admitted_shelf, admitted_world}
use Rattle.pocket_plan.specs.declared.guard.Guard.{Guard}
use Rattle.pocket_plan.proofs.Opening.{shelf_mapped}

pub shelf_admitted : (w : World) (g : Guard) (ask : Ask) (name : Name) → shelf_named name (admitted_world w g ask).shelves ≡ option_map (admitted_shelf w g ask) (shelf_named name w.shelves)
shelf_admitted w g ask name = shelf_mapped (admitted_shelf w g ask) (λ s. refl) name w.shelves

both_mapped : (h : Shelf → Shelf) (o : Option LentShelf) → option_map (λ s. h (lent_shelf s)) o ≡ option_map h (option_map lent_shelf o)
both_mapped h None = refl
both_mapped h (Some s) = refl

-- a lent shelf that was found stands for its admitted records
pub shelf_found : (w : World) (g : Guard) (ask : Ask) (name : Name) (o : Option LentShelf) → option_map lent_shelf o ≡ shelf_named name w.shelves
    → option_map (λ s. admitted_shelf w g ask (lent_shelf s)) o ≡ shelf_named name (admitted_world w g ask).shelves
shelf_found w g ask name o found = both_mapped (admitted_shelf w g ask) o ∙ ap (option_map (admitted_shelf w g ask)) found ∙ sym (shelf_admitted w g ask name)
