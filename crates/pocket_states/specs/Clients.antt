-- Who subscribed to what.
use Rattle.std.specs.Prelude.{ℕ, List}
use Rattle.pocket_types.specs.declared.requests.Caller.{Caller}

-- a client: its id, who opened it, its topics in byte order, and how many commands were accepted up to and with its opening
pub record Client : Type 0 where
  pub id : List ℕ
  pub caller : Caller
  pub topics : List (List ℕ)
  pub since : ℕ
