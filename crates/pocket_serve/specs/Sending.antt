-- What a session sends, and how much of it the sink took.
use Rattle.std.specs.Prelude.{◌⊎◌, ℕ, ◌+◌, ◌≤◌, ◌==◌, ◌||◌, Bool, true, List, [], ◌++◌, take, length, Option, Some, None}
use Rattle.std.specs.Io.KnownBytes.{Appends}
use Rattle.pocket_types.specs.Causes.{Rose}
use Rattle.pocket_wire.specs.Outside.{AppendsFront}
use Rattle.pocket_wire.specs.Phrases.{refused_bytes}
use Rattle.pocket_wire.specs.declared.request.Ended.{Ended}
use Rattle.pocket_wire.specs.declared.request.Ended.TheVariants.{Refused, SinkFault, Memory}
use Rattle.pocket_wire.specs.declared.request.Request.{Request}
use Rattle.pocket_api.specs.Replies.{no_memory_bytes}

-- the connection ends with the reply to this request, which so many came before: it asks for that, or it is the 1,000th
abbrev pub is_last : ℕ → Request → Bool
is_last number request = request.close || (number + 1) == 1000

-- what is sent behind the last reply: the refusal of bytes that aren't a request
abbrev pub end_bytes : Ended → List ℕ
end_bytes (Refused status) = refused_bytes status
end_bytes _ = []

-- ---- one text

-- the sink failed, and took a front
abbrev pub TakesPart : Option (List ℕ) → Option (List ℕ) → ℕ → ℕ → List ℕ → Type 0
TakesPart old new before now text = AppendsFront old new text × Rose before now

-- the sink took all, or failed and took a front
abbrev pub TakesSome : Option (List ℕ) → Option (List ℕ) → ℕ → ℕ → List ℕ → Type 0
TakesSome old new before now text = Appends old new text ⊎ TakesPart old new before now text

-- a text was sent and the session goes on; or it ended for the sink, or for want of memory with the reply that says so
abbrev pub IsSent : Option (List ℕ) → Option (List ℕ) → ℕ → ℕ → List ℕ → Option Ended → Type 0
IsSent old new before now text None = Appends old new text
IsSent old new before now text (Some SinkFault) = TakesPart old new before now text
IsSent old new before now text (Some Memory) = TakesSome old new before now (no_memory_bytes true)
IsSent old new before now text (Some _) = ⊥

-- ---- a session

-- the sink failed: it took what was said before, and a front of what came last
abbrev pub TakesFront : Option (List ℕ) → Option (List ℕ) → ℕ → ℕ → List ℕ → List ℕ → Type 0
TakesFront old new before now said last = (n : ℕ) × (n ≤ length last) × Appends old new (said ++ take n last) × Rose before now

-- the sink took what a session said, and what came last: all, or where it failed and the session ended for that or for want of
-- memory a front
abbrev pub Takes : Option (List ℕ) → Option (List ℕ) → ℕ → ℕ → List ℕ → List ℕ → Ended → Type 0
Takes old new before now said last SinkFault = TakesFront old new before now said last
Takes old new before now said last Memory = Appends old new (said ++ last) ⊎ TakesFront old new before now said last
Takes old new before now said last _ = Appends old new (said ++ last)
