-- The requests that stand in the bytes of a connection one after the other, and how the bytes end.
use Rattle.std.specs.Prelude.{◌≡◌, ◌≢◌, ◌⊎◌, ℕ, zero, suc, List, [], ◌∷◌, ◌++◌, length, MatchBool, ⊤}
use Rattle.httparse.specs.Grammar.{RequestHead}
use Rattle.pocket_wire.specs.Blocks.{IsBlock, IsTooLong, after_empty_line}
use Rattle.pocket_wire.specs.Heads.{AreRefused, AsksFor, IsHead}
use Rattle.pocket_wire.specs.declared.request.Request.{Request}
use Rattle.pocket_wire.specs.declared.request.Ended.{Ended}
use Rattle.pocket_wire.specs.declared.request.Ended.TheVariants.{Done, Closed, Refused, Truncated, Limit}

-- the bytes are this request, all of them: the block of a head, and the body that the head asks for
pub record IsRequest (bytes : List ℕ) (request : Request) : Type 0 where
  pub block : List ℕ
  pub h : RequestHead
  pub bytes_are : bytes ≡ block ++ request.body
  pub is_block : IsBlock block
  pub is_head : IsHead (after_empty_line block) h
  pub asks : AsksFor h request
  pub cost : request.cost ≡ length bytes

-- the bytes begin with a block whose lines are refused with this status
pub record HasRefusedHead (bytes : List ℕ) (status : ℕ) : Type 0 where
  pub block : List ℕ
  pub rest : List ℕ
  pub bytes_are : bytes ≡ block ++ rest
  pub is_block : IsBlock block
  pub refused : AreRefused (after_empty_line block) status

-- what the bytes begin with is refused with this status
abbrev pub IsRefused : List ℕ → ℕ → Type 0
IsRefused bytes status = ((status ≡ 431) × IsTooLong bytes) ⊎ HasRefusedHead bytes status

-- the bytes are this request and then that rest
abbrev pub BeginsWithRequest : List ℕ → Request → List ℕ → Type 0
BeginsWithRequest bytes request rest = (front : List ℕ) × (bytes ≡ front ++ rest) × IsRequest front request

-- the bytes begin with a request, or with what is refused
abbrev pub IsDecided : List ℕ → Type 0
IsDecided bytes =
    ((request : Request) × (rest : List ℕ) × BeginsWithRequest bytes request rest) ⊎ ((status : ℕ) × IsRefused bytes status)

-- how bytes end that don't begin with a request
abbrev pub EndsAs : List ℕ → Ended → Type 0
EndsAs bytes Done = bytes ≡ []
EndsAs bytes Truncated = (bytes ≢ []) × (¬ (IsDecided bytes))
EndsAs bytes (Refused status) = IsRefused bytes status
EndsAs bytes _ = ⊥

-- the requests that stand in the bytes one after the other, of which there may be so many, and how the bytes end; none follows
-- one that asks for the close
abbrev pub RequestsOf : ℕ → List ℕ → List Request → Ended → Type 0
RequestsOf zero bytes requests ended = (requests ≡ []) × (ended ≡ Limit)
RequestsOf (suc n) bytes [] ended = EndsAs bytes ended
RequestsOf (suc n) bytes (request ∷ requests) ended =
    (rest : List ℕ) × BeginsWithRequest bytes request rest
    × MatchBool request.close ((requests ≡ []) × (ended ≡ Closed)) (RequestsOf n rest requests ended)

-- these are the first of the requests that stand in the bytes, of which there may be so many
abbrev pub AreFirst : ℕ → List ℕ → List Request → Type 0
AreFirst n bytes [] = ⊤
AreFirst zero bytes (request ∷ requests) = ⊥
AreFirst (suc n) bytes (request ∷ requests) =
    (rest : List ℕ) × BeginsWithRequest bytes request rest × MatchBool request.close (requests ≡ []) (AreFirst n rest requests)

-- bytes determine their requests and how they end
abbrev pub AreDetermined : Type 0
AreDetermined = (n : ℕ) (bytes : List ℕ) (one other : List Request) (ended end : Ended) → RequestsOf n bytes one ended
    → RequestsOf n bytes other end → (one ≡ other) × (ended ≡ end)

-- bytes that follow change nothing that is decided: they stand behind the request, or behind what is refused
abbrev pub StayDecided : Type 0
StayDecided = (bytes more : List ℕ)
    → ((request : Request) (rest : List ℕ) → BeginsWithRequest bytes request rest → BeginsWithRequest (bytes ++ more) request (rest ++ more))
    × ((status : ℕ) → IsRefused bytes status → IsRefused (bytes ++ more) status)
