-- What contracts see of a desk and of a pass, and what the calls of a desk say.
use Rattle.std.specs.Prelude.{◌≡◌, ◌≢◌, ℕ, Bool, ◌+◌, ◌<◌, ◌≤◌, ◌⊎◌, List, [], ◌∷◌, ◌++◌, take, length, Option, Some}
use Rattle.atomic_table.specs.Table.{Me}
use Rattle.atomic_table.specs.Seated.{TableId}
use Rattle.atomic_table.specs.declared.shared.Seat.{Seat}
use Rattle.pocket_desk.specs.declared.view.Entry.{Entry}
use Rattle.pocket_desk.specs.declared.view.Call.{Call}
use Rattle.pocket_desk.specs.declared.view.Stage.TheVariants.{Idle}
use Rattle.pocket_desk.specs.declared.view.Pending.TheVariants.{Nothing}
use Rattle.pocket_desk.specs.declared.view.Numbers.{Numbers}
use Rattle.pocket_desk.specs.declared.view.View.{View}
use Rattle.pocket_desk.specs.History.{entry, works, works_by, works_held, longer, BeginsWith, HasExactly, Holds, IsInterleaved}
use Rattle.pocket_desk.specs.Lock.{held}
use Rattle.pocket_desk.specs.View.{call_of}

-- which desk it is, and the machine that it was opened with
pub record DeskName (M : Type 0) : Type 0 where
  pub lock : TableId
  pub opened : Option M

pub record DeskView (M : Type 0) : Type 0 where
  pub name : DeskName M
  pub opened : M

pub record PassView (M W R : Type 0) : Type 0 where
  pub desk : DeskName M
  pub number : ℕ
  pub held : List Numbers
  pub seen : List (Entry W)
  pub mine : List W
  pub ours : List W
  pub calls : List (Call W R)

abbrev pub desk_name : {M : Type 0} → TableId → M → DeskName M
desk_name lock opened = record { lock = lock; opened = Some opened }

module _ {M W R : Type 0} where
  abbrev pub view_at : TableId → Me (Option M) (View M W R) → PassView M W R
  view_at lock m = record { desk = record { lock = lock; opened = m.0.opened }; number = m.0.number; held = held m.0; seen = m.0.seen; mine = m.0.mine; ours = works_held (held m.0) m.0.seen; calls = m.0.calls }

  abbrev pub pass_view : Seat (Option M) (View M W R) → PassView M W R
  pass_view s = view_at s.table_id s.me

  -- a pass is an idle seat, and what it has seen has exactly its works
  pub record IsAtRest (m : Me (Option M) (View M W R)) : Type 0 where
    pub empty_handed : m.1 ≡ []
    pub idle : m.0.stage ≡ Idle
    pub merged : m.0.pending ≡ Nothing
    pub number_below : m.0.number < m.0.stride
    pub own : HasExactly m.0.number m.0.stride m.0.mine m.0.seen

  abbrev pub IsPass : Seat (Option M) (View M W R) → Type 0
  IsPass s = IsAtRest s.me

  -- the pass is one of this desk
  abbrev pub IsOf : DeskView M → PassView M W R → Type 0
  IsOf desk p = p.desk ≡ desk.name

  -- the entries with the pass's number are exactly its works, in order: each stands there once
  abbrev pub KnowsOwnWorks : PassView M W R → Type 0
  KnowsOwnWorks p = works_by p.number p.seen ≡ p.mine

  -- every number is its own, or one of the passes that were joined to it: each pass that there was is one of these
  abbrev pub IsWhole : PassView M W R → Type 0
  IsWhole p = (n : ℕ) → Holds p.held n

  -- it has seen nothing
  pub record IsNew (p : PassView M W R) : Type 0 where
    pub whole : IsWhole p
    pub seen : p.seen ≡ []
    pub mine : p.mine ≡ []
    pub ours : p.ours ≡ []
    pub calls : p.calls ≡ []

  abbrev pub works_before : ℕ → PassView M W R → List W
  works_before position p = works (take position p.seen)

  -- the work stands at the position, under the pass's number, and is the last that it has seen
  pub record IsEntered (position : ℕ) (p : PassView M W R) (work : W) (q : PassView M W R) : Type 0 where
    pub length_is : length q.seen ≡ position + 1
    pub last : q.seen ≡ take position q.seen ++ entry p.number work ∷ []
    pub mine : q.mine ≡ p.mine ++ work ∷ []
    pub ours : q.ours ≡ p.ours ++ work ∷ []

  -- the work was not entered, and the pass has seen all that stands before the position
  pub record IsNotEntered (position : ℕ) (p q : PassView M W R) : Type 0 where
    pub length_is : length q.seen ≡ position
    pub mine : q.mine ≡ p.mine
    pub ours : q.ours ≡ p.ours

  -- a call at some position of the history, not before what the pass had seen
  pub record IsCall (fits : List W → W → R → Bool → Type 0) (enters : List W → W → R → Type 0) (p : PassView M W R) (work : W) (q : PassView M W R) (reply : R) : Type 0 where
    pub position : ℕ
    pub number : q.number ≡ p.number
    pub held : q.held ≡ p.held
    pub not_before : length p.seen ≤ position
    pub seen_grows : BeginsWith q.seen p.seen
    pub reply_fits : (risen : Bool) × fits (works_before position q) work reply risen
    pub enters_once : (enters (works_before position q) work reply × IsEntered position p work q) ⊎ ((¬ enters (works_before position q) work reply) × IsNotEntered position p q)
    pub calls : q.calls ≡ p.calls ++ call_of position work reply ∷ []

  -- both have seen the same. The first is as before, and the second is new but for that
  pub record IsSplit (p one two : PassView M W R) : Type 0 where
    pub seen : (one.seen ≡ p.seen) × (two.seen ≡ p.seen)
    pub number : (one.number ≡ p.number) × (two.number ≢ p.number)
    pub held : (n : ℕ) → Holds p.held n → Holds one.held n ⊎ Holds two.held n
    pub mine : (one.mine ≡ p.mine) × (two.mine ≡ [])
    pub ours : (one.ours ≡ p.ours) × (two.ours ≡ [])
    pub calls : (one.calls ≡ p.calls) × (two.calls ≡ [])

  -- it goes on as the first, has seen what either had, and keeps the calls of both
  pub record IsJoin (one two p : PassView M W R) : Type 0 where
    pub number : p.number ≡ one.number
    pub held : (n : ℕ) → Holds one.held n ⊎ Holds two.held n → Holds p.held n
    pub mine : p.mine ≡ one.mine
    pub ours : IsInterleaved one.ours two.ours p.ours
    pub calls : p.calls ≡ one.calls ++ two.calls
    pub seen : p.seen ≡ longer one.seen two.seen
    pub begins : BeginsWith p.seen one.seen × BeginsWith p.seen two.seen
    pub theirs : works_by two.number p.seen ≡ two.mine
