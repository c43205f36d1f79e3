-- Which works of a list of calls are entered, and where the calls stand.
use Rattle.std.specs.Prelude.{◌≡◌, ◌⊎◌, ◌≤◌, ℕ, List, [], ◌∷◌, ⊤}
use Rattle.pocket_api.specs.declared.reply.Reply.{Reply}
use Rattle.pocket_api.specs.declared.work.Work.{Work}
use Rattle.pocket_desk.specs.declared.view.Call.{Call}
use Rattle.pocket_serve.specs.Positions.{Enters}

-- the works of just those calls whose replies enter them, in order
abbrev pub AreEntered : (List Work → Work → Reply → Type 0) → List Work → List (Call Work Reply) → List Work → Type 0
AreEntered enters history [] entered = entered ≡ []
AreEntered enters history (call ∷ calls) entered =
    ((rest : List Work) × Enters enters history call × (entered ≡ call.work ∷ rest) × AreEntered enters history calls rest)
    ⊎ ((¬ (Enters enters history call)) × AreEntered enters history calls entered)

-- no call's position is below the first number, nor above the second
abbrev pub StandBetween : ℕ → ℕ → List (Call Work Reply) → Type 0
StandBetween low high [] = ⊤
StandBetween low high (call ∷ calls) = (low ≤ call.position) × (call.position ≤ high) × StandBetween low high calls
