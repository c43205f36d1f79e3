-- Links that are served one after the other.
use Rattle.std.proofs.Common.{◌≡◌, ◌⊎◌, ℕ, ◌+◌, ◌≤◌, List, [], ◌∷◌, ◌++◌, Option, Some, None, map, refl, sym, ◌∙◌, ap, subst, arith, append_assoc, append-nil, length-append}
use Rattle.std.specs.Io.KnownBytes.{Consumes, IsAtEnd}
use Rattle.std.proofs.Math.Nat.{le_refl, le_trans}
use Rattle.pocket_types.specs.Causes.{Rose}
use Rattle.pocket_types.specs.declared.moments.Moment.{Moment}
use Rattle.pocket_wire.specs.declared.request.Ended.{Ended}
use Rattle.pocket_wire.specs.declared.request.Ended.TheVariants.{Done, Truncated, SourceFault}
use Rattle.pocket_api.specs.declared.reply.Reply.{Reply}
use Rattle.pocket_api.specs.declared.work.Draw.{Draw}
use Rattle.pocket_api.specs.declared.work.Work.{Work}
use Rattle.pocket_desk.specs.History.{BeginsWith}
use Rattle.pocket_desk.specs.declared.view.Call.{Call}
use Rattle.pocket_serve.specs.Accepting.{AcceptorView, Finished, GivesFirst, IsFresh, IsGiven, finished_link, with_finished}
use Rattle.pocket_serve.specs.Drawing.{IsDrawn, draws_of}
use Rattle.pocket_serve.specs.Hands.{AddsFinished, AreDrawsOf, AreFinishedAs, AreSessions, GivesInputs, HandView, HasServed, IsFinishedAs, Served, calls_of}
use Rattle.pocket_serve.specs.Sending.{Takes}
use Rattle.pocket_serve.specs.Sessions.{IsSession}
use Rattle.pocket_serve.proofs.Endings.{drawn_nothing, drawn_through}
use Rattle.pocket_serve.proofs.Extension.{session_extends}

-- ---- sessions

module _ (fits enters : List Work → Work → Reply → Type 0) (follows : ℕ → ℕ → Type 0) where
  -- sessions one after the other over a history are such over a longer one
  pub sessions_extend : (history more : List Work) (seen : ℕ) (links : List Served) (next : ℕ) → AreSessions fits enters follows history seen links next
      → AreSessions fits enters follows (history ++ more) seen links next
  sessions_extend history more seen [] next is = is
  sessions_extend history more seen (link ∷ links) next (middle, session, rest) = (
    middle,
    session_extends fits fits enters follows follows (λ l work reply f. f) (λ low at f. f) history more seen link.calls link.bytes link.said link.last link.ended middle session,
    sessions_extend history more middle links next rest,
  )

  sessions_more : (history : List Work) (seen : ℕ) (links : List Served) (middle : ℕ) (more : List Served) (next : ℕ)
      → AreSessions fits enters follows history seen links middle → AreSessions fits enters follows history middle more next
      → AreSessions fits enters follows history seen (links ++ more) next
  sessions_more history seen [] middle more next same rest = subst (λ n. AreSessions fits enters follows history n more next) same rest
  sessions_more history seen (link ∷ links) middle more next (between, session, first) rest =
      (between, session, sessions_more history between links middle more next first rest)

  -- one more, which saw the longer history
  pub sessions_add : (history now : List Work) (seen : ℕ) (links : List Served) (middle : ℕ) (link : Served) (next : ℕ) → BeginsWith now history
      → AreSessions fits enters follows history seen links middle → IsSession fits enters follows now middle link.calls link.bytes link.said link.last link.ended next
      → AreSessions fits enters follows now seen (links ++ link ∷ []) next
  sessions_add history now seen links middle link next (more, is) before session =
      sessions_more now seen links middle (link ∷ []) next
      (subst (λ h. AreSessions fits enters follows h seen links middle) (sym is) (sessions_extend history more seen links middle before))
      (next, session, refl)

calls-append : (links more : List Served) → calls_of (links ++ more) ≡ calls_of links ++ calls_of more
calls-append [] more = refl
calls-append (link ∷ links) more = ap (λ l. link.calls ++ l) (calls-append links more) ∙ sym (append_assoc link.calls (calls_of links) (calls_of more))

pub calls_add : (links : List Served) (link : Served) → calls_of (links ++ link ∷ []) ≡ calls_of links ++ link.calls
calls_add links link = calls-append links (link ∷ []) ∙ ap (λ l. calls_of links ++ l) (append-nil link.calls)

-- ---- what is told

gives_through : (a b c : Option (List (List ℕ))) (first second : List (Option (List ℕ))) → GivesInputs a b first → GivesInputs b c second → GivesInputs a c (first ++ second)
gives_through None b c first second none rest = subst (λ o. GivesInputs o c second) none rest
gives_through (Some a) None c first second bad rest = absurd bad
gives_through (Some a) (Some b) None first second some bad = absurd bad
gives_through (Some a) (Some b) (Some c) first second some rest =
    some ∙ ap (λ l. first ++ l) rest ∙ sym (append_assoc first second (map Some c))

adds_through : (a b c : Option (List Finished)) (first second : List Finished) → AddsFinished a b first → AddsFinished b c second → AddsFinished a c (first ++ second)
adds_through None b c first second none rest = subst (λ o. AddsFinished o c second) none rest
adds_through (Some a) b c first second some rest =
    let there : AddsFinished (Some (a ++ first)) c second = subst (λ o. AddsFinished o c second) some rest in
    there ∙ ap Some (append_assoc a first second)

finished_more : (inputs others : List (Option (List ℕ))) (links more : List Served) (ended rest : List Finished) → AreFinishedAs inputs links ended
    → AreFinishedAs others more rest → AreFinishedAs (inputs ++ others) (links ++ more) (ended ++ rest)
finished_more [] others [] more [] rest first second = second
finished_more (input ∷ inputs) others (link ∷ links) more (end ∷ ended) rest (is, first) second = (is, finished_more inputs others links more ended rest first second)
finished_more [] others [] more (end ∷ ended) rest bad second = absurd bad
finished_more [] others (link ∷ links) more ended rest bad second = absurd bad
finished_more (input ∷ inputs) others [] more ended rest bad second = absurd bad
finished_more (input ∷ inputs) others (link ∷ links) more [] rest bad second = absurd bad

draws_more : (links more : List Served) (draws rest : List Draw) → AreDrawsOf links draws → AreDrawsOf more rest → AreDrawsOf (links ++ more) (draws ++ rest)
draws_more [] more draws rest none second = subst (λ l. AreDrawsOf more (l ++ rest)) (sym none) second
draws_more (link ∷ links) more draws rest (extra, others, is, at_most_one, first) second = (
  extra,
  others ++ rest,
  ap (λ l. l ++ rest) is ∙ append_assoc (draws_of link.calls ++ extra) others rest,
  at_most_one,
  draws_more links more others rest first second,
)

-- ---- one link

module _ {N : Type 0} (left taken : N → Option (List ℕ)) (read_faults write_faults : N → ℕ) where
  -- a fresh link that was answered, as it is finished
  pub finished_as : (link now : N) (calls : List (Call Work Reply)) (bytes said last : List ℕ) (ended : Ended)
      → IsFresh left taken read_faults write_faults link → Consumes (left link) (left now) bytes
      → Takes (taken link) (taken now) (write_faults link) (write_faults now) said last ended
      → (ended ≡ SourceFault → Rose (read_faults link) (read_faults now)) → ((ended ≡ Done) ⊎ (ended ≡ Truncated) → IsAtEnd (left now))
      → IsFinishedAs (left link) (record { calls = calls; bytes = bytes; said = said; last = last; ended = ended }) (finished_link left taken read_faults write_faults now ended)
  finished_as link now calls bytes said last ended fresh gave took fault at_end = record {
    start = taken link;
    fresh = fresh.taken_none;
    gave = gave;
    took = subst (λ n. Takes (taken link) (taken now) n (write_faults now) said last ended) fresh.no_write_fault took;
    ended = refl;
    source_fault = λ e. subst (λ n. Rose n (read_faults now)) fresh.no_read_fault (fault e);
    at_end = at_end;
  }

  gives_one : (old new : Option (List (List ℕ))) (input : Option (List ℕ)) → GivesFirst old new input → GivesInputs old new (input ∷ [])
  gives_one None new input none = none
  gives_one (Some []) new input bad = absurd bad
  gives_one (Some (first ∷ inputs)) new input (is, rest) =
      subst (λ o. GivesInputs (Some (first ∷ inputs)) o (input ∷ [])) (sym rest) (ap (λ i. i ∷ map Some inputs) (sym is))

  adds_one : (old : AcceptorView) (told : Option (List Finished)) (end : Finished) → old.finished ≡ told → AddsFinished told (with_finished old end).finished (end ∷ [])
  adds_one old None end is = ap (λ o. (with_finished (record old { finished = o }) end).finished) is
  adds_one old (Some ended) end is = ap (λ o. (with_finished (record old { finished = o }) end).finished) is

  -- a link that was accepted, served and finished
  pub served_one : (old given new : AcceptorView) (m0 m1 : Option (List Moment)) (w0 w1 : Option (List ℕ)) (link : N) (served : Served) (end : Finished)
      → IsGiven left taken read_faults write_faults old given link → old.faults ≤ given.faults → IsFinishedAs (left link) served end
      → new ≡ with_finished given end → IsDrawn m0 m1 w0 w1 (draws_of served.calls) served.ended
      → HasServed (record { acceptor = old; moments = m0; words = w0 }) (record { acceptor = new; moments = m1; words = w1 }) (served ∷ [])
  served_one old given new m0 m1 w0 w1 link served end is count finished after d = record {
    left = omega (arith, is.waiting, ap (λ (a : AcceptorView). a.waiting) after);
    inputs = left link ∷ [];
    gives =
        subst (λ o. GivesInputs old.inputs o (left link ∷ [])) (sym (ap (λ (a : AcceptorView). a.inputs) after))
        (gives_one old.inputs given.inputs (left link) is.first);
    ended = end ∷ [];
    adds =
        subst (λ o. AddsFinished old.finished o (end ∷ [])) (sym (ap (λ (a : AcceptorView). a.finished) after))
        (adds_one given old.finished end is.finished);
    finished = (finished, tt);
    draws = draws_of served.calls ++ d.more;
    draws_are = (d.more, [], sym (append-nil (draws_of served.calls ++ d.more)), d.at_most_one, refl);
    drawn = d.drawn;
    count = omega (arith, count, ap (λ (a : AcceptorView). a.faults) after);
  }

-- ---- links

told_no_more : (told : Option (List Finished)) → AddsFinished told told []
told_no_more None = refl
told_no_more (Some ended) = ap Some (sym (append-nil ended))

gives_no_more : (told : Option (List (List ℕ))) → GivesInputs told told []
gives_no_more None = refl
gives_no_more (Some inputs) = refl

pub served_none : (view : HandView) → HasServed view view []
served_none view = record {
  left = omega arith;
  inputs = [];
  gives = gives_no_more view.acceptor.inputs;
  ended = [];
  adds = told_no_more view.acceptor.finished;
  finished = tt;
  draws = [];
  draws_are = refl;
  drawn = drawn_nothing view.moments view.words;
  count = le_refl view.acceptor.faults;
}

pub served_more : (one two three : HandView) (links more : List Served) → HasServed one two links → HasServed two three more → HasServed one three (links ++ more)
served_more one two three links more first second = record {
  left = omega (arith, first.left, second.left, length-append links more);
  inputs = first.inputs ++ second.inputs;
  gives = gives_through one.acceptor.inputs two.acceptor.inputs three.acceptor.inputs first.inputs second.inputs first.gives second.gives;
  ended = first.ended ++ second.ended;
  adds = adds_through one.acceptor.finished two.acceptor.finished three.acceptor.finished first.ended second.ended first.adds second.adds;
  finished = finished_more first.inputs second.inputs links more first.ended second.ended first.finished second.finished;
  draws = first.draws ++ second.draws;
  draws_are = draws_more links more first.draws second.draws first.draws_are second.draws_are;
  drawn = drawn_through one.moments two.moments three.moments one.words two.words three.words first.draws second.draws first.drawn second.drawn;
  count = le_trans first.count second.count;
}
