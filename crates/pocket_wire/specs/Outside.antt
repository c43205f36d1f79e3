-- What calls say of sinks, clocks and dice.
use Rattle.std.specs.Prelude.{◌≡◌, ℕ, zero, suc, ◌+◌, ◌-◌, ◌^◌, ◌%◌, ◌≤◌, nat_lt, List, [], ◌∷◌, ◌++◌, take, length, Option, None, Some, if◌then◌else◌, ⊤}
use Rattle.std.specs.Io.KnownBytes.{Appends}

-- told bytes grow by a front of these
abbrev pub AppendsFront : Option (List ℕ) → Option (List ℕ) → List ℕ → Type 0
AppendsFront old new bytes = (n : ℕ) × (n ≤ length bytes) × Appends old new (take n bytes)

-- told answers grow by this one, and are told on until there are 2 ^ 64 - 1 of them
abbrev pub AddsAnswer : {T : Type 0} → Option (List T) → Option (List T) → T → Type 0
AddsAnswer None new answer = ⊤
AddsAnswer (Some before) None answer = 2 ^ 64 - 1 ≤ length before + 1
AddsAnswer (Some before) (Some now) answer = now ≡ before ++ answer ∷ []

-- the answers of so many calls, which are told while there are fewer than 2 ^ 64 - 1
abbrev pub told : {T : Type 0} → ℕ → List T → Option (List T)
told calls answers = if nat_lt calls (2 ^ 64 - 1) then Some answers else None

-- so many words, counted up from a start, after 2 ^ 64 - 1 on from 0
abbrev pub counted_words : ℕ → ℕ → List ℕ
counted_words start zero = []
counted_words start (suc n) = counted_words start n ++ ((start + n) % 2 ^ 64) ∷ []
