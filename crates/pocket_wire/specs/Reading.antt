-- What reading the next request comes to.
use Rattle.std.specs.Prelude.{◌≡◌, ◌≢◌, ℕ, List, [], Option, Result, Ok, Err, ⊤}
use Rattle.std.specs.Io.KnownBytes.{IsAtEnd}
use Rattle.pocket_wire.specs.Phrases.{IsReplyStatus}
use Rattle.pocket_wire.specs.Requests.{BeginsWithRequest, IsDecided, IsRefused}
use Rattle.pocket_wire.specs.declared.request.Next.{Next}
use Rattle.pocket_wire.specs.declared.request.Next.TheVariants as next
use Rattle.pocket_wire.specs.declared.request.WireFault.{WireFault}
use Rattle.pocket_wire.specs.declared.request.WireFault.TheVariants as fault

-- what comes next in the bytes, of which those are kept, where that is left of the input
abbrev pub IsNext : List ℕ → Option (List ℕ) → List ℕ → Next → Type 0
IsNext bytes left kept (next.Request request) = BeginsWithRequest bytes request kept
IsNext bytes left kept next.End = (bytes ≡ []) × IsAtEnd left × (kept ≡ [])
IsNext bytes left kept next.Truncated = (bytes ≢ []) × (¬ (IsDecided bytes)) × IsAtEnd left × (kept ≡ bytes)
IsNext bytes left kept (next.Refused status) = IsRefused bytes status × (kept ≡ bytes)

-- the same of a read that may fail: the source's fault comes only where the bytes don't decide, and loses none of them
abbrev pub IsRead : List ℕ → Option (List ℕ) → List ℕ → Result Next WireFault → Type 0
IsRead bytes left kept (Ok n) = IsNext bytes left kept n
IsRead bytes left kept (Err fault.SourceFault) = (¬ (IsDecided bytes)) × (kept ≡ bytes)
IsRead bytes left kept (Err fault.Memory) = ⊤

-- a refusal has a status that replies have
abbrev pub HasReplyStatus : Result Next WireFault → Type 0
HasReplyStatus (Ok (next.Refused status)) = IsReplyStatus status
HasReplyStatus _ = ⊤
