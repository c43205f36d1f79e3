-- The keeper of a run: one of two kinds.
use Rattle.std.specs.Prelude.{◌≡◌, ℕ, Bool, true, false, List, [], Option, Some, None, IfSome, ⊤}
use Rattle.pocket_keeper.specs.Rows.{IsRising}
use Rattle.pocket_keeper.specs.declared.memory.MemoryKeeper.{MemoryKeeper}
use Rattle.pocket_keeper.specs.declared.rows.KeptRow.{KeptRow}
use Rattle.pocket_sqlite.specs.declared.keeper.SqliteKeeper.{SqliteKeeper}
use Rattle.pocket_main.specs.declared.keepers.HostKeeper.{HostKeeper}
use Rattle.pocket_main.specs.declared.keepers.HostKeeper.TheVariants.{Memory, File}

-- what is said of a keeper of each kind
abbrev pub by_kind : {T : Type 0} → (MemoryKeeper → T) → (SqliteKeeper → T) → HostKeeper → T
by_kind of_memory of_file (Memory keeper) = of_memory keeper
by_kind of_memory of_file (File keeper) = of_file keeper

-- where the told rows of each kind rise by key, those of either do
pub rows_rise : (memory_rows : MemoryKeeper → Option (List KeptRow)) (file_rows : SqliteKeeper → Option (List KeptRow))
    → ((keeper : MemoryKeeper) → IfSome (memory_rows keeper) IsRising) → ((keeper : SqliteKeeper) → IfSome (file_rows keeper) IsRising)
    → (keeper : HostKeeper) → IfSome (by_kind memory_rows file_rows keeper) IsRising
rows_rise memory_rows file_rows memory file (Memory keeper) = memory keeper
rows_rise memory_rows file_rows memory file (File keeper) = file keeper

-- a keeper over a file where one is named, and else one in memory, which has no row unless the sample is asked for
abbrev pub IsKeeperFor : (HostKeeper → Option (List KeptRow)) → Option (List ℕ) → Bool → HostKeeper → Type 0
IsKeeperFor rows (Some file) sample (File keeper) = ⊤
IsKeeperFor rows (Some file) sample (Memory keeper) = ⊥
IsKeeperFor rows None sample (File keeper) = ⊥
IsKeeperFor rows None true (Memory keeper) = ⊤
IsKeeperFor rows None false (Memory keeper) = rows (Memory keeper) ≡ Some []
