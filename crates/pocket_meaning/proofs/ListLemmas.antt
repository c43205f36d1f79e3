-- One more item of a list.
use Rattle.std.proofs.Common.{◌≡◌, ℕ, ◌+◌, ◌<◌, List, [], ◌∷◌, ◌++◌, length, get_or, take, sym, ap, ◌∙◌}
use Rattle.std.specs.Prelude.{Option, filter_map}
use Rattle.std.specs.List.{cons_option}
use Rattle.std.proofs.lemmas.List.Elements.{filter_map-append}
use Rattle.std.proofs.lemmas.List.{take_more}

pub take_one_more : {X : Type 0} (xs : List X) (k : ℕ) (x : X) → k < length xs → x ≡ get_or xs k x → take (k + 1) xs ≡ take k xs ++ x ∷ []
take_one_more xs k x l is = take_more xs k x l ∙ ap (λ y. take k xs ++ y ∷ []) (sym is)

pub filter_map_more : {X Y : Type 0} (h : X → Option Y) (xs : List X) (k : ℕ) (x : X) → k < length xs → x ≡ get_or xs k x → filter_map h (take (k + 1) xs) ≡ filter_map h (take k xs) ++ cons_option (h x) []
filter_map_more h xs k x l is = rw (take_one_more xs k x l is) (filter_map-append h (take k xs) (x ∷ []))
