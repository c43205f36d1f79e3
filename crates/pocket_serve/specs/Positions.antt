-- Where the calls of one owner stand in the history.
use Rattle.std.specs.Prelude.{◌≡◌, ◌⊎◌, ℕ, ◌+◌, List, [], ◌∷◌, take, slice_get, Some}
use Rattle.pocket_api.specs.declared.reply.Reply.{Reply}
use Rattle.pocket_api.specs.declared.work.Work.{Work}
use Rattle.pocket_desk.specs.declared.view.Call.{Call}

module _ (enters : List Work → Work → Reply → Type 0) (history : List Work) where
  -- the call's reply enters its work
  abbrev pub Enters : Call Work Reply → Type 0
  Enters call = enters (take call.position history) call.work call.reply

  -- the positions rise from a place to the next by one at each call that enters its work, which stands there in the history, and
  -- not else
  abbrev pub Rise : ℕ → List (Call Work Reply) → ℕ → Type 0
  Rise place [] next = next ≡ place
  Rise place (call ∷ calls) next =
      (call.position ≡ place)
      × ((Enters call × (slice_get history place ≡ Some call.work) × Rise (place + 1) calls next) ⊎ ((¬ (Enters call)) × Rise place calls next))
