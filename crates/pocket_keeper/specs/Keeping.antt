-- What a keeper holds after a commit, and what a call of it may answer.
use Rattle.std.specs.Prelude.{◌≡◌, ℕ, ◌+◌, ◌-◌, ◌^◌, ◌==◌, ◌≤◌, min, true, List, ◌∷◌, ◌++◌, not, filter, fold, Option, Some, None, Result, Ok, Err, IfErr, ⊤}
use Rattle.std.specs.List.{list_any}
use Rattle.std.specs.Str.{bytes_eq}
use Rattle.pocket_types.specs.Causes.{Rose}
use Rattle.pocket_types.specs.Order.{is_before}
use Rattle.pocket_keeper.specs.declared.rows.KeptRow.{KeptRow}
use Rattle.pocket_keeper.specs.declared.rows.KeepFault.{KeepFault}
use Rattle.pocket_keeper.specs.declared.rows.KeepFault.TheVariants.{Failed, Memory}

-- the rows whose keys stand before this one
abbrev pub rows_before : List ℕ → List KeptRow → List KeptRow
rows_before key rows = filter (λ row. is_before row.key key) rows

-- the rows whose keys stand after this one
abbrev pub rows_after : List ℕ → List KeptRow → List KeptRow
rows_after key rows = filter (λ row. is_before key row.key) rows

-- the rows with this one, at its place and in place of a row of its key
abbrev pub put_row : KeptRow → List KeptRow → List KeptRow
put_row row rows = rows_before row.key rows ++ row ∷ rows_after row.key rows

-- the rows with each of these put, in their order
abbrev pub rows_with : List KeptRow → List KeptRow → List KeptRow
rows_with puts rows = fold (λ kept row. put_row row kept) rows puts

-- the rows whose keys are none of these
abbrev pub rows_without : List (List ℕ) → List KeptRow → List KeptRow
rows_without cuts rows = filter (λ row. not (list_any (bytes_eq row.key) cuts)) rows

-- the rows after a commit: the cuts are made first, then the puts in their order
abbrev pub committed : List KeptRow → List KeptRow → List (List ℕ) → List KeptRow
committed rows puts cuts = rows_with puts (rows_without cuts rows)

-- a fact of the rows before a call and after it, where both are told
abbrev pub IfBothTold : Option (List KeptRow) → Option (List KeptRow) → (List KeptRow → List KeptRow → Type 0) → Type 0
IfBothTold None now P = ⊤
IfBothTold (Some before) None P = ⊤
IfBothTold (Some before) (Some now) P = P before now

-- the rows are as before, where both are told
abbrev pub AreAsBefore : Option (List KeptRow) → Option (List KeptRow) → Type 0
AreAsBefore old new = IfBothTold old new (λ before now. now ≡ before)

-- the count of faults didn't fall, and `Failed` comes only where it rose
pub record HasKeepCause {T : Type 0} (before now : ℕ) (result : Result T KeepFault) : Type 0 where
  pub later : before ≤ now
  pub failed : IfErr result (λ fault. fault ≡ Failed → Rose before now)

-- the count after a call: one more where the call failed, up to the end of its type
abbrev pub counted : {T : Type 0} → ℕ → Result T KeepFault → ℕ
counted before (Ok answer) = before
counted before (Err Failed) = min (before + 1) (2 ^ 64 - 1)
counted before (Err Memory) = before

-- the call of this number is to fail: it is one of these
abbrev pub IsToFail : List ℕ → ℕ → Type 0
IsToFail failing call = list_any (λ number. number == call) failing ≡ true
