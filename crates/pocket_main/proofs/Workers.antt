-- What the workers of a server served, of which each takes so many connections.
use Rattle.std.proofs.Common.{◌≡◌, ◌⊎◌, inl, inr, ◌∙◌, ap, ℕ, Bool, true, false, List, [], ◌∷◌, length, map, suc, refl, sym, arith}
use Rattle.std.specs.Prelude.{All, MatchBool}
use Rattle.std.proofs.lemmas.List.Elements.{All-cons, All-head, All-nil, All-tail}
use Rattle.pocket_types.specs.Causes.{Rose}
use Rattle.pocket_api.specs.declared.reply.Reply.{Reply}
use Rattle.pocket_api.specs.declared.work.Work.{Work}
use Rattle.pocket_serve.specs.Hands.{HandView}
use Rattle.pocket_serve.specs.Workers.{AreWorked, IsWorked}
use Rattle.pocket_serve.specs.declared.hand.WorkerEnd.{WorkerEnd}
use Rattle.pocket_wire.specs.declared.request.Ended.{Ended}
use Rattle.pocket.specs.Runs.{OnSession}
use Rattle.pocket.specs.declared.status.RunEnd.{RunEnd}
use Rattle.pocket.specs.declared.status.RunEnd.TheVariants as run
use Rattle.pocket_main.specs.Outcomes.{HasServed}

-- a fact of the session from another one
pub on_session : {P Q : Ended → Type 0} (end : RunEnd) → ((ended : Ended) → P ended → Q ended) → OnSession end P → OnSession end Q
on_session (run.Session ended) more h = more ended h
on_session run.Words more h = tt
on_session run.KeeperFault more h = tt
on_session (run.BadStore key) more h = tt
on_session run.Memory more h = tt
on_session run.SourceFault more h = tt
on_session run.SinkFault more h = tt
on_session (run.Faults count) more h = tt
on_session run.BadInput more h = tt
on_session run.NotEmpty more h = tt

faulted_or : (P Q : Type 0) (faulted : Bool) → MatchBool faulted P Q → (faulted ≡ true) ⊎ Q
faulted_or P Q true over = inl refl
faulted_or P Q false over = inr over

module _ {H : Type 0} (view : H → HandView) (fits enters : List Work → Work → Reply → Type 0) (follows : ℕ → ℕ → Type 0) (history : List Work)
    (connections : ℕ) where
  -- the hand takes as many connections
  abbrev Takes : H → Type 0
  Takes hand = (view hand).acceptor.waiting ≡ connections

  as_many : (Q : Type 0) (end : WorkerEnd) → (Q → end.connections ≡ connections) → (end.faulted ≡ true) ⊎ Q → HasServed connections end
  as_many Q end most (inl faulted) = inl faulted
  as_many Q end most (inr over) = inr (most over)

  one_served : (old new : HandView) (end : WorkerEnd) (entered : List Work) → old.acceptor.waiting ≡ connections
      → IsWorked fits enters follows history old new end entered → HasServed connections end
  one_served old new end entered left worked =
      let run = worked.run in
      as_many (new.acceptor.waiting ≡ 0) end (λ over. omega (arith, left, over, run.connections_are, run.served.left))
      (faulted_or (Rose old.acceptor.faults new.acceptor.faults) (new.acceptor.waiting ≡ 0) end.faulted run.over)

  -- each worker served as many connections as its hand takes, or ended for a fault, and each hand had one
  pub all_served : (hands : List H) (news : List HandView) (ends : List WorkerEnd) (entered : List Work) → All Takes hands
      → AreWorked fits enters follows history (map view hands) news ends entered
      → (length ends ≡ length hands) × All (HasServed connections) ends
  all_served [] [] [] entered left worked = (refl, All-nil (HasServed connections))
  all_served (hand ∷ hands) (new ∷ news) (end ∷ ends) entered left (own, theirs, between, worked, rest) =
      let first = one_served (view hand) new end own (All-head Takes hand hands left) worked in
      let others = all_served hands news ends theirs (All-tail Takes hand hands left) rest in
      (ap suc others.0, All-cons (HasServed connections) end ends first others.1)
  all_served [] [] (end ∷ ends) entered left bad = absurd bad
  all_served [] (new ∷ news) ends entered left bad = absurd bad
  all_served (hand ∷ hands) [] ends entered left bad = absurd bad
  all_served (hand ∷ hands) (new ∷ news) [] entered left bad = absurd bad
