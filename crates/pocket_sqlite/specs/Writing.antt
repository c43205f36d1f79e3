-- What the statements of a commit leave of the database.
use Rattle.std.specs.Prelude.{◌≡◌, ℕ, List, [], ◌∷◌, map, true, Ok, IsTrue}
use Rattle.sqlite_value.specs.declared.value.Value.TheVariants.{Text}
use Rattle.sqlite_value.specs.Order.{Row}
use Rattle.sqlite.specs.Store.{Ghosts}
use Rattle.sqlite.specs.State.{State, HasCleanDisk, KeepsCommit, Executes}
use Rattle.sqlite.specs.Held.{Held, state}
use Rattle.pocket_keeper.specs.declared.rows.KeptRow.{KeptRow}

-- the text with each key as its value
abbrev pub deletions : List ℕ → List (List ℕ) → List (List ℕ × Row)
deletions text keys = map (λ key. (text, Text key ∷ [])) keys

-- the text with each row's key and value as its values
abbrev pub insertions : List ℕ → List KeptRow → List (List ℕ × Row)
insertions text rows = map (λ row. (text, Text row.key ∷ Text row.value ∷ [])) rows

-- each of the statements was run, in their order, and none was refused
abbrev pub HaveRun : {S : Type 0} → Ghosts S → List (List ℕ × Row) → Held S → Held S → Type 0
HaveRun g [] old new = new ≡ old
HaveRun {S} g (statement ∷ rest) old new =
    (mid : Held S) × (count : ℕ) × Executes statement.0 statement.1 (state g old) (state g mid) (Ok count) × HaveRun g rest mid new

-- the last commit is what the statements made in one transaction
pub record HaveBeenKept {S : Type 0} (g : Ghosts S) (statements : List (List ℕ × Row)) (old new : Held S) : Type 0 where
  pub last : Held S
  pub run : HaveRun g statements (record old { in_transaction = true }) last
  pub committed : (state g new).committed ≡ (state g last).now

-- the database is as its last commit left it, where the connection is still open over a disk that gives back what was written
abbrev pub IsAsCommitted : State → State → Type 0
IsAsCommitted old new = HasCleanDisk new → IsTrue new.is_open → (new.now ≡ old.committed) × (new.committed ≡ old.committed)

-- nothing was committed, on such a disk
pub record IsUncommitted (old new : State) : Type 0 where
  pub clean : HasCleanDisk new → HasCleanDisk old
  pub kept : HasCleanDisk new → KeepsCommit old new
