-- What a state holds beside what contracts see of it.
use Rattle.std.specs.Prelude.{◌≡◌, ◌≤◌, []}
use Rattle.pocket_types.specs.Within.{collections_of}
use Rattle.pocket_gate.specs.Built.{rules_of}
use Rattle.pocket_core.specs.Answers.{after, tally_of}
use Rattle.pocket_states.specs.States.{IsSoundState, MachineState, StateView, opened_state}
use Rattle.pocket_core.specs.declared.state.State.TheInside.{Inside}

-- the state as it is now
abbrev pub present : Inside → MachineState
present s = record { world = s.tables.world; admin = s.admin; tokens = s.tokens; clients = [] }

abbrev pub view_of : Inside → StateView
view_of s = record { opening = opened_state s.opening.value s.admin; journal = s.journal.items }

-- it is the state after the accepted commands, and sound, its rules are those of its collections, and the commands' costs are summed
pub record IsKept (s : Inside) : Type 0 where
  pub now : present s ≡ after (view_of s).opening s.journal.items
  pub sound : IsSoundState (present s)
  pub rules : s.rules ≡ rules_of (collections_of s.tables.world)
  pub costs : s.costs ≡ (tally_of s.journal.items).bytes
  pub within : s.costs ≤ 268435456
