-- The calls of what stands in memory for the world outside: which of them fail, and what a read gives.
use Rattle.std.specs.Prelude.{◌≡◌, ◌≤◌, ℕ, ◌+◌, ◌-◌, ◌^◌, ◌==◌, ◌++◌, List, [], true, length, min, if◌then◌else◌, is_err, Result}
use Rattle.std.specs.List.{list_any}
use Rattle.pocket_wire.specs.declared.calls.Calls.{Calls}

-- the next call is to fail: its number is one of those
abbrev pub IsToFail : Calls → Type 0
IsToFail calls = list_any (λ number. number == calls.made) calls.failing.items ≡ true

-- a call is counted, and a fault where it failed; both counts end at 2 ^ 64 - 1
pub record IsCounted {T E : Type 0} (old new : Calls) (result : Result T E) : Type 0 where
  pub made : new.made ≡ min (old.made + 1) (2 ^ 64 - 1)
  pub failing : new.failing ≡ old.failing
  pub faults : new.faults ≡ (if is_err result then min (old.faults + 1) (2 ^ 64 - 1) else old.faults)

-- one read of a source in memory: a piece of at most this size from the front of what is left, none where it is to fail
pub record IsOneRead (size : ℕ) (old new : Calls) (before piece after : List ℕ) : Type 0 where
  pub left : before ≡ piece ++ after
  pub few : length piece ≤ size
  pub fails : IsToFail old → piece ≡ []
  pub made : new.made ≡ min (old.made + 1) (2 ^ 64 - 1)
  pub failing : new.failing ≡ old.failing
