-- What a listener gives to an acceptor that tries more than once.
use Rattle.std.specs.Prelude.{◌≡◌, ◌⊎◌, ◌+◌, ◌-◌, ◌^◌, ℕ, zero, suc, min, Option, Some, None, Result, Ok, Err}
use Rattle.pocket_types.specs.declared.failed.Failed.{Failed}
use Rattle.pocket.specs.declared.acceptor.HostLink.{HostLink}

module _ {L S : Type 0} (gives : L → Option S → L → Type 0) where
  -- what so many tries at most come to: the stream of the first that gave one, or none where each gave none
  abbrev pub GivesWithin : ℕ → L → Option S → L → Type 0
  GivesWithin zero old given new = (given ≡ None) × (new ≡ old)
  GivesWithin (suc tries) old given new =
      ((stream : S) × (given ≡ Some stream) × gives old given new)
      ⊎ ((middle : L) × gives old None middle × GivesWithin tries middle given new)

-- the stream of an accepted link
abbrev pub stream_of : {S : Type 0} → Result (Option (HostLink S)) Failed → Option S
stream_of (Ok (Some link)) = Some link.stream
stream_of (Ok None) = None
stream_of (Err failed) = None

-- the count of faults after an accept: it rises where that fails, and stands still at its end
abbrev pub faults_after : {T : Type 0} → ℕ → Result T Failed → ℕ
faults_after before (Ok accepted) = before
faults_after before (Err failed) = min (before + 1) (2 ^ 64 - 1)
