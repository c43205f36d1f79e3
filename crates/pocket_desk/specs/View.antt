-- What a seat knows, and how that changes.
use Rattle.std.specs.Prelude.{ℕ, ◌+◌, List, [], ◌∷◌, ◌++◌, Option, Some, None}
use Rattle.pocket_desk.specs.declared.view.Entry.{Entry}
use Rattle.pocket_desk.specs.declared.view.Call.{Call}
use Rattle.pocket_desk.specs.declared.view.Stage.{Stage}
use Rattle.pocket_desk.specs.declared.view.Stage.TheVariants.{Idle, Joined}
use Rattle.pocket_desk.specs.declared.view.Pending.{Pending}
use Rattle.pocket_desk.specs.declared.view.Pending.TheVariants.{Nothing, Other}
use Rattle.pocket_desk.specs.declared.view.Numbers.{Numbers}
use Rattle.pocket_desk.specs.declared.view.View.{View}
use Rattle.pocket_desk.specs.History.{entry, longer, numbers}

module _ {W R : Type 0} where
  abbrev pub call_of : ℕ → W → R → Call W R
  call_of position work reply = record { position = position; work = work; reply = reply }

-- what was seen, with what a joined seat had seen
abbrev pub merged : {W : Type 0} → List (Entry W) → Pending W → List (Entry W)
merged seen Nothing = seen
merged seen (Other number held theirs mine) = longer seen theirs

-- the joined numbers, with those of a joined seat
abbrev pub all_joined : {W : Type 0} → List Numbers → Pending W → List Numbers
all_joined joined Nothing = joined
all_joined joined (Other number held theirs mine) = joined ++ held

module _ {M W R : Type 0} where
  abbrev pub view_of : Option M → Stage → ℕ → ℕ → List Numbers → List (Entry W) → List W → List (Call W R) → Pending W → View M W R
  view_of opened stage number stride joined seen mine calls pending =
      record { opened = opened; stage = stage; number = number; stride = stride; joined = joined; seen = seen; mine = mine; calls = calls; pending = pending }

  -- the view of the first seat
  abbrev pub first_view : M → View M W R
  first_view opened = view_of (Some opened) Idle 0 1 [] [] [] [] Nothing

  abbrev pub at_stage : View M W R → Stage → View M W R
  at_stage v stage = view_of v.opened stage v.number v.stride v.joined v.seen v.mine v.calls v.pending

  -- the history so far was seen
  abbrev pub seeing : View M W R → List (Entry W) → Stage → View M W R
  seeing v log stage = view_of v.opened stage v.number v.stride v.joined log v.mine v.calls v.pending

  -- the seat's work was entered
  abbrev pub entered : View M W R → W → View M W R
  entered v work = view_of v.opened v.stage v.number v.stride v.joined (v.seen ++ entry v.number work ∷ []) (v.mine ++ work ∷ []) v.calls v.pending

  -- the turn is over, and the call was kept
  abbrev pub answered : View M W R → Call W R → View M W R
  answered v call = view_of v.opened Idle v.number v.stride v.joined v.seen v.mine (v.calls ++ call ∷ []) v.pending

  -- the two halves of a view: each may give away every second of the numbers
  abbrev pub left_view : View M W R → View M W R
  left_view v = view_of v.opened v.stage v.number (v.stride + v.stride) v.joined v.seen v.mine v.calls v.pending

  abbrev pub right_view : View M W R → View M W R
  right_view v = view_of v.opened v.stage (v.number + v.stride) (v.stride + v.stride) [] v.seen [] [] Nothing

  -- two views in one, whose seen entries are still to be merged
  abbrev pub joined_view : View M W R → View M W R → View M W R
  joined_view v w = view_of v.opened v.stage v.number v.stride v.joined v.seen v.mine (v.calls ++ w.calls) (Other w.number (numbers w.number w.stride ∷ w.joined) w.seen w.mine)

  -- what the second seat is left with
  abbrev pub spent_view : View M W R
  spent_view = view_of None Joined 0 1 [] [] [] [] Nothing

  abbrev pub merged_view : View M W R → View M W R
  merged_view v = view_of v.opened v.stage v.number v.stride (all_joined v.joined v.pending) (merged v.seen v.pending) v.mine v.calls Nothing
