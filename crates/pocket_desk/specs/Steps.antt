-- What each step tells the seat that steps.
use Rattle.std.specs.Prelude.{◌≡◌, ◌≢◌, ℕ, List, ◌∷◌, ◌++◌, Option, Some}
use Rattle.atomic_table.specs.Table.{Me, Step, rest}
use Rattle.pocket_desk.specs.declared.view.Entry.{Entry}
use Rattle.pocket_desk.specs.declared.view.Call.{Call}
use Rattle.pocket_desk.specs.declared.view.Stage.TheVariants.{Waiting, Serving, Closing}
use Rattle.pocket_desk.specs.declared.view.View.{View}
use Rattle.pocket_desk.specs.History.{works, BeginsWith, HasExactly, HasNoneOf}
use Rattle.pocket_desk.specs.View.{at_stage, seeing, entered, answered, merged_view}
use Rattle.pocket_desk.specs.Lock.{PendingHolds, held}

-- a seat's view and the slot in hand
abbrev pub Mine : Type 0 → Type 0 → Type 0 → Type 0
Mine M W R = Me (Option M) (View M W R)

module _ {M W R : Type 0} where
  -- the ticket is the seat's where the word was as expected
  abbrev pub TakesTicket : Step (Option M) → Mine M W R → ℕ → Mine M W R → Type 0
  TakesTicket st m found m' = (found ≡ st.first → m' ≡ (at_stage m.0 (Waiting st.first), m.1)) × (found ≢ st.first → m' ≡ m)

  -- at its turn the seat has the slot with the machine, and has seen the whole history, which its machine has
  pub record GetsTurn {O : Type 0} (opening : M → O) (history : M → List W) (ticket : ℕ) (m m' : Mine M W R) : Type 0 where
    pub log : List (Entry W)
    pub machine : M
    pub now : m' ≡ (seeing m.0 log (Serving ticket), (0, Some machine) ∷ m.1)
    pub opening_is : (o : M) → m.0.opened ≡ Some o → opening machine ≡ opening o
    pub history_is : history machine ≡ works log
    pub seen : BeginsWith log m.0.seen
    pub late : HasNoneOf (held m.0) seen.0
    pub own : HasExactly m.0.number m.0.stride m.0.mine log

  abbrev pub LooksAtServing : {O : Type 0} → (M → O) → (M → List W) → Step (Option M) → Mine M W R → ℕ → Mine M W R → Type 0
  LooksAtServing opening history st m found m' = (t : ℕ) → m.0.stage ≡ Waiting t → (found ≡ t → GetsTurn opening history t m m') × (found ≢ t → m' ≡ m)

  abbrev pub AddsToLength : Option W → Step (Option M) → Mine M W R → ℕ → Mine M W R → Type 0
  AddsToLength said st m found m' = (work : W) → said ≡ Some work → m' ≡ (entered m.0 work, m.1)

  abbrev pub AddsToServing : Option (Call W R) → Step (Option M) → Mine M W R → ℕ → Mine M W R → Type 0
  AddsToServing said st m found m' = (call : Call W R) → said ≡ Some call → m' ≡ (answered m.0 call, rest m.1)

  abbrev pub Closes : Step (Option M) → Mine M W R → ℕ → Mine M W R → Type 0
  Closes st m found m' = (t : ℕ) → m.0.stage ≡ Serving t → m' ≡ (at_stage m.0 (Closing t), rest m.1)

  -- what the two seats had seen are beginnings of one history, which has exactly the works of each, all of them seen
  abbrev pub Merges : Step (Option M) → Mine M W R → ℕ → Mine M W R → Type 0
  Merges st m found m' = (m' ≡ (merged_view m.0, m.1))
      × ((log : List (Entry W)) × (rest : List (Entry W)) × (log ≡ m.0.seen ++ rest) × HasNoneOf (held m.0) rest
      × HasExactly m.0.number m.0.stride m.0.mine log × PendingHolds log (held m.0) m.0.pending)
