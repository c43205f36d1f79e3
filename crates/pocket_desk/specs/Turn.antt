-- What one turn at the lock does, step by step.
use Rattle.std.specs.Prelude.{◌≡◌, ℕ, Bool, ◌⊎◌, List, [], ◌∷◌, length, Option, Some}
use Rattle.atomic_table.specs.Seated.{TableId}
use Rattle.atomic_table.specs.declared.shared.Seat.{Seat}
use Rattle.pocket_desk.specs.declared.view.Stage.TheVariants.{Idle, Waiting, Serving}
use Rattle.pocket_desk.specs.declared.view.Pending.TheVariants.{Nothing}
use Rattle.pocket_desk.specs.declared.view.View.{View}
use Rattle.pocket_desk.specs.History.{works}
use Rattle.pocket_desk.specs.View.{at_stage, entered, answered, call_of}

abbrev pub LockSeat : Type 0 → Type 0 → Type 0 → Type 0
LockSeat M W R = Seat (Option M) (View M W R)

module _ {M W R : Type 0} where
  abbrev pub IsSeatOf : TableId → LockSeat M W R → Type 0
  IsSeatOf lock s = (s.table_id ≡ lock) × (lock.words ≡ 3) × (lock.slots ≡ 1)

  abbrev pub IsSameSeat : LockSeat M W R → LockSeat M W R → Type 0
  IsSameSeat s s' = (s'.table_id ≡ s.table_id) × (s'.id ≡ s.id)

  abbrev pub IsIdle : LockSeat M W R → Type 0
  IsIdle s = (s.me.0.stage ≡ Idle) × (s.me.1 ≡ [])

  abbrev pub IsWaiting : ℕ → LockSeat M W R → Type 0
  IsWaiting ticket s = (s.me.0.stage ≡ Waiting ticket) × (s.me.1 ≡ [])

  -- the seat is as it was, and waits with the ticket
  abbrev pub HasTicketFrom : LockSeat M W R → ℕ → LockSeat M W R → Type 0
  HasTicketFrom s ticket s' = IsSameSeat s s' × (s'.me ≡ (at_stage s.me.0 (Waiting ticket), []))

  abbrev pub HoldsSlot : Option M → LockSeat M W R → Type 0
  HoldsSlot content s = s.me.1 ≡ (0, content) ∷ []

  abbrev pub IsServing : LockSeat M W R → Type 0
  IsServing s = (t : ℕ) × (s.me.0.stage ≡ Serving t) × (s.me.0.pending ≡ Nothing)

  -- the machine is one of this opening, with the history that the seat has seen
  abbrev pub IsUpToDate : {O : Type 0} → (M → O) → (M → List W) → O → M → LockSeat M W R → Type 0
  IsUpToDate opening history opened machine s = (opening machine ≡ opened) × (history machine ≡ works s.me.0.seen)

  -- it is the seat's turn, and it has the slot with the machine
  abbrev pub HasTurn : {O : Type 0} → (M → O) → (M → List W) → M → LockSeat M W R → Type 0
  HasTurn opening history opened s = IsServing s × ((machine : M) × HoldsSlot (Some machine) s × IsUpToDate opening history (opening opened) machine s)

  -- the turn is over: the call was kept, and the work was entered just where it enters
  pub record IsServed (fits : List W → W → R → Bool → Type 0) (enters : List W → W → R → Type 0) (s : LockSeat M W R) (work : W) (s' : LockSeat M W R) (reply : R) : Type 0 where
    pub seat : IsSameSeat s s'
    pub fit : (risen : Bool) × fits (works s.me.0.seen) work reply risen
    pub view : (enters (works s.me.0.seen) work reply × (s'.me ≡ (answered (entered s.me.0 work) (call_of (length s.me.0.seen) work reply), [])))
        ⊎ ((¬ enters (works s.me.0.seen) work reply) × (s'.me ≡ (answered s.me.0 (call_of (length s.me.0.seen) work reply), [])))
