-- What serving one request, or the end of a connection, comes to.
--
-- A call is told by predicates: `Exchange` says which calls answer the request, with which bytes, and `Came` by which calls the
-- service came to be what it is now.
use Rattle.std.specs.Prelude.{◌≡◌, ◌⊎◌, ℕ, List, [], ◌∷◌, Bool, true, false, Option, Some, None, Result, Ok, Err}
use Rattle.std.specs.Io.KnownBytes.{Appends}
use Rattle.pocket_types.specs.declared.moments.Moment.{Moment}
use Rattle.pocket_wire.specs.Phrases.{refused_bytes}
use Rattle.pocket_wire.specs.declared.request.Ended.{Ended}
use Rattle.pocket_wire.specs.declared.request.Ended.TheVariants as ended
use Rattle.pocket_wire.specs.declared.request.Next.{Next}
use Rattle.pocket_wire.specs.declared.request.Next.TheVariants as next
use Rattle.pocket_wire.specs.declared.request.Request.{Request}
use Rattle.pocket_wire.specs.declared.request.WireFault.{WireFault}
use Rattle.pocket_wire.specs.declared.request.WireFault.TheVariants as fault
use Rattle.pocket_api.specs.Replies.{no_memory_bytes}
use Rattle.pocket_api.specs.declared.reply.Reply.{Reply}
use Rattle.pocket_api.specs.declared.work.Draw.{Draw}
use Rattle.pocket_api.specs.declared.work.Work.{Work}
use Rattle.pocket_desk.specs.declared.view.Call.{Call}
use Rattle.pocket_serve.specs.Drawing.{AreDrawn}
use Rattle.pocket_serve.specs.Sending.{TakesPart, TakesSome}

-- the refusal was sent, or the sink or memory failed
abbrev pub IsRefusal : Option (List ℕ) → Option (List ℕ) → ℕ → ℕ → ℕ → Ended → Type 0
IsRefusal old new before now status (ended.Refused said) = (said ≡ status) × Appends old new (refused_bytes status)
IsRefusal old new before now status ended.SinkFault = TakesPart old new before now (refused_bytes status)
IsRefusal old new before now status ended.Memory = TakesSome old new before now (no_memory_bytes true)
IsRefusal old new before now status _ = ⊥

-- how the session goes on after a call whose reply has these bytes, where the request asks for the close or not
abbrev pub GoesOn : Option (List ℕ) → Option (List ℕ) → ℕ → ℕ → Bool → List ℕ → Option Ended → Type 0
GoesOn old new before now close text None = (close ≡ false) × Appends old new text
GoesOn old new before now close text (Some ended.Closed) = (close ≡ true) × Appends old new text
GoesOn old new before now close text (Some ended.SinkFault) = TakesPart old new before now text
GoesOn old new before now close text (Some ended.Memory) = TakesSome old new before now (no_memory_bytes true)
GoesOn old new before now close text (Some _) = ⊥

-- the request's call was made, with this draw
pub record IsCalled (Exchange : Call Work Reply → List ℕ → Type 0) (Came : List (Call Work Reply) → Type 0) (old new : Option (List ℕ)) (before now : ℕ) (close : Bool) (draw : Draw) (end : Option Ended) : Type 0 where
  pub call : Call Work Reply
  pub text : List ℕ
  pub drawn : call.work.draw ≡ draw
  pub exchange : Exchange call text
  pub came : Came (call ∷ [])
  pub goes_on : GoesOn old new before now close text end

-- nothing was called
pub record IsUncalled (Came : List (Call Work Reply) → Type 0) (seen seen_now : List Work) : Type 0 where
  pub came : Came []
  pub same : seen_now ≡ seen

-- memory was wanting, and the reply that says so was sent as far as the sink took it
pub record IsClosed (old new : Option (List ℕ)) (before now : ℕ) (end : Option Ended) : Type 0 where
  pub ended : end ≡ Some ended.Memory
  pub closing : TakesSome old new before now (no_memory_bytes true)

-- a request was served, with this draw
abbrev pub IsServed : (Call Work Reply → List ℕ → Type 0) → (List (Call Work Reply) → Type 0) → List Work → List Work → Option (List ℕ) → Option (List ℕ)
    → ℕ → ℕ → Bool → Draw → Option Ended → Type 0
IsServed Exchange Came seen seen_now old new before now close draw end =
    IsCalled Exchange Came old new before now close draw end ⊎ (IsUncalled Came seen seen_now × IsClosed old new before now end)

-- what came next was answered
module _ (Exchange : Request → Call Work Reply → List ℕ → Type 0) (Came : List (Call Work Reply) → Type 0) (seen seen_now : List Work) (old new : Option (List ℕ)) (before now : ℕ) (moments moments_now : Option (List Moment)) (words words_now : Option (List ℕ)) where
  -- nothing was called, drawn or sent, and the session ends so
  abbrev pub IsQuiet : Ended → Option Ended → Type 0
  IsQuiet then end = AreDrawn moments moments_now words words_now [] × IsUncalled Came seen seen_now × (new ≡ old) × (end ≡ Some then)

  abbrev pub IsAnswered : Result Next WireFault → Option Ended → Type 0
  IsAnswered (Ok (next.Request request)) end =
      (draw : Draw) × AreDrawn moments moments_now words words_now (draw ∷ [])
      × IsServed (Exchange request) Came seen seen_now old new before now request.close draw end
  IsAnswered (Ok next.End) end = IsQuiet ended.Done end
  IsAnswered (Ok next.Truncated) end = IsQuiet ended.Truncated end
  IsAnswered (Ok (next.Refused status)) end =
      AreDrawn moments moments_now words words_now [] × IsUncalled Came seen seen_now
      × ((said : Ended) × (end ≡ Some said) × IsRefusal old new before now status said)
  IsAnswered (Err fault.SourceFault) end = IsQuiet ended.SourceFault end
  IsAnswered (Err fault.Memory) end =
      AreDrawn moments moments_now words words_now [] × IsUncalled Came seen seen_now × IsClosed old new before now end
