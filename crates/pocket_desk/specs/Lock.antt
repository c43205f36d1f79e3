-- The rule of the lock, which holds between any two steps. The words are `ticket`, `serving` and `length`.
use Rattle.std.specs.Prelude.{◌≡◌, ◌≢◌, ℕ, ◌^◌, ◌<◌, ◌≤◌, ◌⊎◌, List, [], ◌∷◌, length, slice_index, Option, Some, None}
use mathlib.Core.Option.{Option as Place, none, some}
use lib.ListN.{get_elem?}
use Rattle.atomic_table.specs.Table.{State}
use Rattle.pocket_desk.specs.declared.view.Entry.{Entry}
use Rattle.pocket_desk.specs.declared.view.Stage.{Stage}
use Rattle.pocket_desk.specs.declared.view.Stage.TheVariants.{Waiting, Serving, Closing, Joined}
use Rattle.pocket_desk.specs.declared.view.Pending.{Pending}
use Rattle.pocket_desk.specs.declared.view.Pending.TheVariants.{Nothing, Other}
use Rattle.pocket_desk.specs.declared.view.View.{View}
use Rattle.pocket_desk.specs.declared.view.Numbers.{Numbers}
use Rattle.pocket_desk.specs.History.{numbers, works, works_by, BeginsWith, Owns, HasExactly, HasNoneOf, Holds}

-- the seat was not joined to another
abbrev pub IsLive : Stage → Type 0
IsLive Joined = ⊥
IsLive _ = Unit {0}

abbrev pub HasTicket : Stage → ℕ → Type 0
HasTicket (Waiting t) n = t ≡ n
HasTicket (Serving t) n = t ≡ n
HasTicket (Closing t) n = t ≡ n
HasTicket _ n = ⊥

-- it is this seat's turn, and the slot was taken
abbrev pub IsAtTurn : Stage → Type 0
IsAtTurn (Serving t) = Unit {0}
IsAtTurn (Closing t) = Unit {0}
IsAtTurn _ = ⊥

module _ {W : Type 0} where
  -- what a joined seat had seen is a beginning of the history, with all that came by the numbers that it held; the seat
  -- that it was joined to holds none of these, and its own number has its works
  pub record OtherHolds (log : List (Entry W)) (held : List Numbers) (number : ℕ) (theirs : List Numbers) (seen : List (Entry W)) (mine : List W) : Type 0 where
    pub begins : BeginsWith log seen
    pub late : HasNoneOf theirs begins.0
    pub own : works_by number log ≡ mine
    pub number_held : Holds theirs number
    pub apart : (n : ℕ) → Holds held n → Holds theirs n → ⊥

  abbrev pub PendingHolds : List (Entry W) → List Numbers → Pending W → Type 0
  PendingHolds log held Nothing = Unit {0}
  PendingHolds log held (Other number theirs seen mine) = OtherHolds log held number theirs seen mine

  -- the numbers that no other live seat may have
  abbrev pub Claims : List Numbers → Pending W → ℕ → Type 0
  Claims held Nothing n = Holds held n
  Claims held (Other other theirs seen mine) n = Holds held n ⊎ Holds theirs n

module _ {M W R : Type 0} where
  -- the numbers that are a seat's own, with those of the seats that were joined to it
  abbrev pub held : View M W R → List Numbers
  held v = numbers v.number v.stride ∷ v.joined

  -- what the words and the slot are while a seat is at a stage
  abbrev pub StageHolds : ℕ → ℕ → List (Entry W) → List (Place (Option M)) → View M W R → Stage → Type 0
  StageHolds ticket serving log homes v (Waiting t) = (serving ≤ t) × (t < ticket)
  StageHolds ticket serving log homes v (Serving t) = (t ≡ serving) × (t < ticket) × (v.seen ≡ log) × (homes ≡ none ∷ [])
  StageHolds ticket serving log homes v (Closing t) = (t ≡ serving) × (t < ticket) × (homes ≡ some None ∷ [])
  StageHolds ticket serving log homes v _ = Unit {0}

  -- what a live seat knows of the history is so
  pub record Knows (opened : M) (log : List (Entry W)) (v : View M W R) : Type 0 where
    pub opened_is : v.opened ≡ Some opened
    pub number_below : v.number < v.stride
    pub seen : BeginsWith log v.seen
    pub late : HasNoneOf (held v) seen.0
    pub own : HasExactly v.number v.stride v.mine log
    pub apart : (n : ℕ) → Owns v.number v.stride n → Holds v.joined n → ⊥
    pub pending : PendingHolds log (held v) v.pending

  pub record ViewHolds (opened : M) (ticket serving : ℕ) (log : List (Entry W)) (homes : List (Place (Option M))) (v : View M W R) : Type 0 where
    pub stage : StageHolds ticket serving log homes v v.stage
    pub knows : IsLive v.stage → Knows opened log v

  -- two seats have different tickets, and no number in common
  pub record AreApart (v w : View M W R) : Type 0 where
    pub tickets : (n : ℕ) → HasTicket v.stage n → HasTicket w.stage n → ⊥
    pub numbers : IsLive v.stage → IsLive w.stage → (n : ℕ) → Claims (held v) v.pending n → Claims (held w) w.pending n → ⊥

  abbrev pub AllHold : M → ℕ → ℕ → List (Entry W) → List (Place (Option M)) → List (View M W R) → Type 0
  AllHold opened ticket serving log homes views = (j : ℕ) (v : View M W R) → get_elem? views j ≡ some v → ViewHolds opened ticket serving log homes v

  abbrev pub AllApart : List (View M W R) → Type 0
  AllApart views = (i j : ℕ) (v w : View M W R) → i ≢ j → get_elem? views i ≡ some v → get_elem? views j ≡ some w → AreApart v w

  -- a seat has this ticket
  abbrev pub IsOut : List (View M W R) → ℕ → Type 0
  IsOut views n = (j : ℕ) × (v : View M W R) × (get_elem? views j ≡ some v) × HasTicket v.stage n

  -- the tickets out are the numbers from `serving` up to `ticket`
  abbrev pub AllOut : ℕ → ℕ → List (View M W R) → Type 0
  AllOut ticket serving views = (n : ℕ) → serving ≤ n → n < ticket → IsOut views n

module _ {M W R O : Type 0} (opening : M → O) (history : M → List W) (opened : M) where
  -- the machine is at home, with the history, or the seat whose turn it is has taken the slot
  abbrev pub SlotHolds : List (Entry W) → List (Place (Option M)) → List (View M W R) → Type 0
  SlotHolds log homes views =
      ((machine : M) × (homes ≡ some (Some machine) ∷ []) × (opening machine ≡ opening opened) × (history machine ≡ works log))
      ⊎ ((j : ℕ) × (v : View M W R) × (get_elem? views j ≡ some v) × IsAtTurn v.stage)

  pub record LockHolds (s : State (Option M) (View M W R)) : Type 0 where
    pub log : List (Entry W)
    pub words : length s.words ≡ 3
    pub tickets_left : slice_index s.words 0 < 2 ^ 64
    pub order : slice_index s.words 1 ≤ slice_index s.words 0
    pub length_is : slice_index s.words 2 ≡ length log
    pub out : AllOut (slice_index s.words 0) (slice_index s.words 1) s.views
    pub slot : SlotHolds log s.homes s.views
    pub views : AllHold opened (slice_index s.words 0) (slice_index s.words 1) log s.homes s.views
    pub apart : AllApart s.views
