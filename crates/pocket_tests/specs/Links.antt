-- An acceptor of one connection.
use Rattle.std.specs.Prelude.{ℕ, ◌<◌, ◌^◌, Option, Some, None, is_some, if◌then◌else◌}
use Rattle.std.proofs.Common.{arith}

-- how many are left
abbrev pub left_of : {L : Type 0} → Option L → ℕ
left_of link = if is_some link then 1 else 0

-- and that these are few
pub few_of : {L : Type 0} (link : Option L) → left_of link < 2 ^ 64
few_of None = omega arith
few_of (Some link) = omega arith
