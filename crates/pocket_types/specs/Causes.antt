-- What a call says of an object outside that counts its faults and may tell its content.
use Rattle.std.specs.Prelude.{ℕ, ◌+◌, ◌-◌, ◌^◌, ◌≤◌, min, OnErr, Option, Result, IsNone}

-- the count rose, or stands at its end
abbrev pub Rose : ℕ → ℕ → Type 0
Rose before now = min (before + 1) (2 ^ 64 - 1) ≤ now

-- the count didn't fall, and an error comes only where it rose
pub record HasCause {T E : Type 0} (before now : ℕ) (result : Result T E) : Type 0 where
  pub later : before ≤ now
  pub failed : OnErr result (Rose before now)

-- what wasn't told isn't told now
abbrev pub StaysUntold : {T : Type 0} → Option T → Option T → Type 0
StaysUntold old new = IsNone old → IsNone new
