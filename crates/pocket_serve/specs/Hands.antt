-- The links of one worker, served one after the other.
use Rattle.std.specs.Prelude.{◌≡◌, ◌⊎◌, ◌≤◌, ℕ, ◌+◌, Bool, MatchBool, List, [], ◌∷◌, ◌++◌, length, map, flat_map, Option, None, Some, ⊤}
use Rattle.std.specs.Io.KnownBytes.{Consumes, IsAtEnd}
use Rattle.pocket_types.specs.Causes.{Rose}
use Rattle.pocket_types.specs.declared.moments.Moment.{Moment}
use Rattle.pocket_wire.specs.declared.request.Ended.{Ended}
use Rattle.pocket_wire.specs.declared.request.Ended.TheVariants.{Done, Truncated, SourceFault, Memory}
use Rattle.pocket_api.specs.declared.reply.Reply.{Reply}
use Rattle.pocket_api.specs.declared.work.Draw.{Draw}
use Rattle.pocket_api.specs.declared.work.Work.{Work}
use Rattle.pocket_desk.specs.declared.view.Call.{Call}
use Rattle.pocket_serve.specs.Accepting.{AcceptorView, Finished}
use Rattle.pocket_serve.specs.Drawing.{AreDrawn, draws_of}
use Rattle.pocket_serve.specs.Sending.{Takes}
use Rattle.pocket_serve.specs.Sessions.{IsSession}
use Rattle.pocket_serve.specs.declared.hand.Hand.{Hand}

-- a link as it was served: its calls, what its input gave, what was said and what came last, and how it ended
pub record Served : Type 0 where
  pub calls : List (Call Work Reply)
  pub bytes : List ℕ
  pub said : List ℕ
  pub last : List ℕ
  pub ended : Ended

-- all calls of these links, in order
abbrev pub calls_of : List Served → List (Call Work Reply)
calls_of links = flat_map (λ (link : Served). link.calls) links

-- the link, which came with this input, was served so: it took what was sent, and its end has its cause
pub record IsFinishedAs (input : Option (List ℕ)) (link : Served) (finished : Finished) : Type 0 where
  pub start : Option (List ℕ)
  pub fresh : (start ≡ None) ⊎ (start ≡ Some [])
  pub gave : Consumes input finished.left link.bytes
  pub took : Takes start finished.taken 0 finished.write_faults link.said link.last link.ended
  pub ended : finished.ended ≡ link.ended
  pub source_fault : link.ended ≡ SourceFault → Rose 0 finished.read_faults
  pub at_end : (link.ended ≡ Done) ⊎ (link.ended ≡ Truncated) → IsAtEnd finished.left

-- the same of links, each with its input, in order
abbrev pub AreFinishedAs : List (Option (List ℕ)) → List Served → List Finished → Type 0
AreFinishedAs [] [] [] = ⊤
AreFinishedAs (input ∷ inputs) (link ∷ links) (end ∷ finished) = IsFinishedAs input link end × AreFinishedAs inputs links finished
AreFinishedAs inputs links finished = ⊥

-- the draws of links: those of each one's calls, and perhaps one more where it ended for want of memory
abbrev pub AreDrawsOf : List Served → List Draw → Type 0
AreDrawsOf [] draws = draws ≡ []
AreDrawsOf (link ∷ links) draws =
    (more : List Draw) × (rest : List Draw) × (draws ≡ (draws_of link.calls ++ more) ++ rest) × ((more ≡ []) ⊎ ((length more ≡ 1) × (link.ended ≡ Memory)))
    × AreDrawsOf links rest

-- the told inputs to come are these and then those to come now
abbrev pub GivesInputs : Option (List (List ℕ)) → Option (List (List ℕ)) → List (Option (List ℕ)) → Type 0
GivesInputs None new inputs = new ≡ None
GivesInputs (Some old) None inputs = ⊥
GivesInputs (Some old) (Some new) inputs = map Some old ≡ inputs ++ map Some new

-- the told finished links grow by these
abbrev pub AddsFinished : Option (List Finished) → Option (List Finished) → List Finished → Type 0
AddsFinished None new links = new ≡ None
AddsFinished (Some old) new links = new ≡ Some (old ++ links)

-- what a worker has, as far as it is told: its acceptor, and the answers of its clock and dice
pub record HandView : Type 0 where
  pub acceptor : AcceptorView
  pub moments : Option (List Moment)
  pub words : Option (List ℕ)

abbrev pub hand_view : {A C D : Type 0} → (A → AcceptorView) → (C → Option (List Moment)) → (D → Option (List ℕ)) → Hand A C D → HandView
hand_view told moments words hand = record { acceptor = told hand.acceptor; moments = moments hand.clock; words = words hand.dice }

-- these links were accepted, served and finished, one after the other
pub record HasServed (old new : HandView) (links : List Served) : Type 0 where
  pub left : old.acceptor.waiting ≡ new.acceptor.waiting + length links
  pub inputs : List (Option (List ℕ))
  pub gives : GivesInputs old.acceptor.inputs new.acceptor.inputs inputs
  pub ended : List Finished
  pub adds : AddsFinished old.acceptor.finished new.acceptor.finished ended
  pub finished : AreFinishedAs inputs links ended
  pub draws : List Draw
  pub draws_are : AreDrawsOf links draws
  pub drawn : AreDrawn old.moments new.moments old.words new.words draws
  pub count : old.acceptor.faults ≤ new.acceptor.faults

-- a worker served these links, as many as it says. Either no link is left, or none could be accepted for a fault
pub record IsHandRun (old new : HandView) (links : List Served) (connections : ℕ) (faulted : Bool) : Type 0 where
  pub served : HasServed old new links
  pub connections_are : connections ≡ length links
  pub over : MatchBool faulted (Rose old.acceptor.faults new.acceptor.faults) (new.acceptor.waiting ≡ 0)

module _ (fits enters : List Work → Work → Reply → Type 0) (follows : ℕ → ℕ → Type 0) (history : List Work) where
  -- the links are sessions, and from each to the next the positions go on
  abbrev pub AreSessions : ℕ → List Served → ℕ → Type 0
  AreSessions seen [] next = next ≡ seen
  AreSessions seen (link ∷ links) next =
      (middle : ℕ) × IsSession fits enters follows history seen link.calls link.bytes link.said link.last link.ended middle × AreSessions middle links next
