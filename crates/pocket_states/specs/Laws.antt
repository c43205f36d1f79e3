-- What a put record leaves of a state and of its kept rows.
use Rattle.std.specs.Prelude.{◌≡◌, List, [], ◌∷◌, Some, MatchBool}
use Rattle.pocket_types.specs.Within.{collections_of}
use Rattle.pocket_types.specs.declared.records.Collection.{Collection}
use Rattle.pocket_types.specs.declared.records.Rec.{Rec}
use Rattle.pocket_keeper.specs.Keeping.{committed}
use Rattle.pocket_keeper.specs.Texts.{rec_row}
use Rattle.pocket_keeper.specs.declared.rows.KeptRow.{KeptRow}
use Rattle.pocket_store.specs.Stores.{HaveSameRows}
use Rattle.pocket_tables.specs.Worlds.{collection_at}
use Rattle.pocket_change.specs.Puts.{MayBePut}
use Rattle.pocket_states.specs.States.{IsSoundState, MachineState, rows_of}
use Rattle.pocket_states.specs.Putting.{row_stands, state_with}

-- a record of a collection of a sound state, which may be put there
pub record IsPutting (s : MachineState) (c : Collection) (r : Rec) : Type 0 where
  pub sound : IsSoundState s
  pub there : collection_at s.world c.name ≡ Some c
  pub may : MayBePut s.world c r

-- the state with it is sound, and its collections are as before
pub record StaysSound (s : MachineState) (c : Collection) (r : Rec) : Type 0 where
  pub sound : IsSoundState (state_with s c r)
  pub collections : collections_of (state_with s c r).world ≡ collections_of s.world

abbrev pub PutsKeepSound : Type 0
PutsKeepSound = (s : MachineState) (c : Collection) (r : Rec) → IsPutting s c r → StaysSound s c r

-- rows that are those of the state are those of the state with the record once its own row is put
abbrev pub PutsKeepRows : Type 0
PutsKeepRows =
    (s : MachineState) (c : Collection) (r : Rec) (told : List KeptRow) → IsPutting s c r → HaveSameRows told (rows_of s)
    → HaveSameRows (committed told (rec_row c r ∷ []) []) (rows_of (state_with s c r))

-- the rows change exactly where no record of its id had a row of this text
abbrev pub TextsDecide : Type 0
TextsDecide =
    (s : MachineState) (c : Collection) (r : Rec) → IsPutting s c r
    → MatchBool (row_stands s.world c r) (HaveSameRows (rows_of s) (rows_of (state_with s c r)))
    (¬ HaveSameRows (rows_of s) (rows_of (state_with s c r)))
