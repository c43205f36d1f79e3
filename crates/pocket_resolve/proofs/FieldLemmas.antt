-- Fields that several collections have.
use Rattle.std.proofs.Common.{◌≡◌, Bool, true, ◌&&◌, List, [], ◌∷◌, Option, Some, None, refl, ap}
use Rattle.std.specs.Prelude.{filter_map}
use Rattle.std.specs.List.{list_all, cons_option}
use Rattle.std.specs.Option.{option_map_or}

-- all that a function gives pass, where each of its arguments passes or gives nothing
pub all_given : {X Y : Type 0} (p : Y → Bool) (f : X → Option Y) (xs : List X) → list_all p (filter_map f xs) ≡ list_all (λ x. option_map_or p (f x) true) xs
all_given p f [] = refl
all_given p f (x ∷ xs) =
    elim (f x) as (λ o. list_all p (cons_option o (filter_map f xs)) ≡ (option_map_or p o true && list_all (λ x. option_map_or p (f x) true) xs)) [
      | Some y ↦ ap (λ b. p y && b) (all_given p f xs)
      | None ↦ all_given p f xs
    ]
