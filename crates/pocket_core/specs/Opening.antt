-- What an opening comes to.
use Rattle.std.specs.Prelude.{◌≡◌, ℕ, List, [], Option, Some, None, ⊤}
use Rattle.pocket_types.specs.Causes.{Rose}
use Rattle.pocket_keeper.specs.declared.rows.KeptRow.{KeptRow}
use Rattle.pocket_store.specs.Stores.{HaveSameRows, IsFirstBadRow, IsStoreOf}
use Rattle.pocket_states.specs.States.{IsSoundState, MachineState, StateView, rows_of, stored_in}
use Rattle.pocket_core.specs.declared.opening.StartFault.{StartFault}
use Rattle.pocket_core.specs.declared.opening.StartFault.TheVariants.{KeeperFault, BadStore, Memory}

-- a fact about rows, where they are told
abbrev pub IfTold : Option (List KeptRow) → (List KeptRow → Type 0) → Type 0
IfTold None P = ⊤
IfTold (Some rows) P = P rows

-- the rows that are told are those of a state
abbrev pub AreRowsOf : Option (List KeptRow) → MachineState → Type 0
AreRowsOf rows s = IfTold rows (λ told. HaveSameRows told (rows_of s))

-- the one sound state that these rows stand for, with this administrator's token, no clients and no accepted command
pub record IsOpened (rows : Option (List KeptRow)) (admin : List ℕ) (s : StateView) : Type 0 where
  pub token : s.opening.admin ≡ admin
  pub clients : s.opening.clients ≡ []
  pub journal : s.journal ≡ []
  pub sound : IsSoundState s.opening
  pub kept : IfTold rows (λ told. IsStoreOf told (stored_in s.opening))

-- why there is no such state: the keeper's count rose, a row may not stand in a store, or memory is wanting
abbrev pub IsStartFault : Option (List KeptRow) → ℕ → ℕ → StartFault → Type 0
IsStartFault rows before now KeeperFault = Rose before now
IsStartFault rows before now (BadStore key) = IfTold rows (λ told. IsFirstBadRow told key)
IsStartFault rows before now Memory = ⊤
