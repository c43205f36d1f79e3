use Rattle.std.proofs.Common.{◌≡◌, ◌+◌, refl, List, ℕ, ◌∷◌, None}
use Rattle.std.proofs.lemmas.List.{take_rest}
use Rattle.pocket_wire.specs.Heads.{said_length}
use Rattle.pocket_wire.specs.Steps.{clipped}
use Rattle.pocket_wire.proofs.Fields.{empty}
use Rattle.pocket_wire.proofs.head.length_of_body.Goals as goal

-- two values
said_twice : (all rest others : List (List ℕ)) (value other : List ℕ) → all ≡ value ∷ rest → rest ≡ other ∷ others → None ≡ clipped (said_length all)
said_twice all rest others value other e f = let is : all ≡ value ∷ other ∷ others = cc (e, f) in rw is refl

pub returns-in-Some-place_of : goal.returns-in-Some-place_of
returns-in-Some-place_of c =
    let whole = take_rest c.args.fields.now (c.in-Some.at + 1) in
    let second = rw whole at (c.in-Some-place_of.ensures.values empty) in
    said_twice _ _ _ _ _ (c.in-Some.ensures.values empty) second
