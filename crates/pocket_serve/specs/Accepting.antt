-- What gives connections, and takes them back when they ended.
use Rattle.std.specs.Prelude.{◌≡◌, ◌⊎◌, ◌<◌, ℕ, suc, List, [], ◌∷◌, ◌++◌, Option, Some, None, Result, Ok, Err, option_map}
use Rattle.pocket_types.specs.declared.failed.Failed.{Failed}
use Rattle.pocket_wire.specs.declared.request.Ended.{Ended}

-- a link as it was finished: what it has left and has taken, where that is told, its two counts of faults, and how it ended
pub record Finished : Type 0 where
  pub left : Option (List ℕ)
  pub taken : Option (List ℕ)
  pub read_faults : ℕ
  pub write_faults : ℕ
  pub ended : Ended

-- what an acceptor tells: how many links are left, where it tells them the inputs of those and the links that were finished, and how
-- often it failed
pub record AcceptorView : Type 0 where
  pub waiting : ℕ
  pub inputs : Option (List (List ℕ))
  pub finished : Option (List Finished)
  pub faults : ℕ

-- one more link was finished
abbrev pub with_finished : AcceptorView → Finished → AcceptorView
with_finished acceptor link = record acceptor { finished = option_map (λ (links : List Finished). links ++ link ∷ []) acceptor.finished }

-- the first of the told inputs is this one, and the others stay to come; inputs that aren't told stay so
abbrev pub GivesFirst : Option (List (List ℕ)) → Option (List (List ℕ)) → Option (List ℕ) → Type 0
GivesFirst None new input = new ≡ None
GivesFirst (Some []) new input = ⊥
GivesFirst (Some (first ∷ inputs)) new input = (input ≡ Some first) × (new ≡ Some inputs)

module _ {N : Type 0} (left taken : N → Option (List ℕ)) (read_faults write_faults : N → ℕ) where
  -- the link that ended so, as it is finished
  abbrev pub finished_link : N → Ended → Finished
  finished_link link ended = record { left = left link; taken = taken link; read_faults = read_faults link; write_faults = write_faults link; ended = ended }

  -- a link that was not used yet
  pub record IsFresh (link : N) : Type 0 where
    pub taken_none : (taken link ≡ None) ⊎ (taken link ≡ Some [])
    pub no_read_fault : read_faults link ≡ 0
    pub no_write_fault : write_faults link ≡ 0

  -- a link, of which one fewer is left
  pub record IsGiven (old new : AcceptorView) (link : N) : Type 0 where
    pub waiting : old.waiting ≡ suc new.waiting
    pub fresh : IsFresh link
    pub first : GivesFirst old.inputs new.inputs (left link)
    pub finished : new.finished ≡ old.finished

  -- a link; none exactly where none is left, and then all is as before; or a failure, which changes nothing but the count
  abbrev pub IsAccepted : AcceptorView → AcceptorView → Result (Option N) Failed → Type 0
  IsAccepted old new (Ok None) = (old.waiting ≡ 0) × (new ≡ old)
  IsAccepted old new (Ok (Some link)) = IsGiven old new link
  IsAccepted old new (Err failed) = (0 < old.waiting) × (new.waiting ≡ old.waiting) × (new.inputs ≡ old.inputs) × (new.finished ≡ old.finished)
