-- What workers served over a history, and what they entered.
use Rattle.std.proofs.Common.{◌≡◌, inl, inr, ℕ, ◌≤◌, List, [], ◌∷◌, ◌++◌, length, map, refl, sym, subst, ap, ◌∙◌, length-append}
use Rattle.std.proofs.Math.Nat.{le-add_right, le_refl}
use Rattle.std.proofs.lemmas.List.{length-map, map-append}
use Rattle.pocket_api.specs.declared.reply.Reply.{Reply}
use Rattle.pocket_api.specs.declared.work.Work.{Work}
use Rattle.pocket_desk.specs.History.{BeginsWith, IsInterleaved, works}
use Rattle.pocket_desk.specs.Pass.{PassView}
use Rattle.pocket_desk.specs.declared.view.Entry.{Entry}
use Rattle.pocket_serve.specs.Entered.{AreEntered, StandBetween}
use Rattle.pocket_serve.specs.Hands.{AreSessions, HandView, IsHandRun, Served, calls_of}
use Rattle.pocket_serve.specs.PassLaws.{entered_extends, stand_wider}
use Rattle.pocket_serve.specs.Passes.{HasCalled}
use Rattle.pocket_serve.specs.Workers.{AreWorked, IsWorked}
use Rattle.pocket_serve.specs.declared.hand.WorkerEnd.{WorkerEnd}
use Rattle.pocket_serve.proofs.Links.{sessions_extend}

-- ---- interleaved lists

module _ {A : Type 0} where
  -- the list, and what of it isn't the third's
  abbrev Regrouped : List A → List A → List A → List A → Type 0
  Regrouped one two three all = (list : List A) × IsInterleaved two list all × IsInterleaved one three list

  regroup_first : (x : A) (one two three rest all : List A) → ((second third : List A) → IsInterleaved second third rest → Regrouped one second third all)
      → IsInterleaved two three (x ∷ rest) → Regrouped one two three (x ∷ all)
  regroup_first x one two three rest all then (inl (left, first, mixed)) = let on = then left three mixed in (on.0, inl (left, first, on.1), on.2)
  regroup_first x one two three rest all then (inr (left, first, mixed)) = let on = then two left mixed in (x ∷ on.0, inr (on.0, refl, on.1), inr (left, first, on.2))

  -- of three lists, two of which were put together first, another two may be
  regroup : (one two three rest all : List A) → IsInterleaved one rest all → IsInterleaved two three rest → Regrouped one two three all
  regroup one two three rest [] is mixed =
      let none : IsInterleaved two three [] = subst (IsInterleaved two three) is.1 mixed in ([], (none.0, refl), (is.0, none.1))
  regroup one two three rest (x ∷ all) (inl (left, first, is)) mixed =
      let on = regroup left two three rest all is mixed in (x ∷ on.0, inr (on.0, refl, on.1), inl (left, first, on.2))
  regroup one two three rest (x ∷ all) (inr (left, first, is)) mixed =
      regroup_first x one two three left all (λ second third m. regroup one second third left all is m) (subst (IsInterleaved two three) first mixed)

module _ (fits enters : List Work → Work → Reply → Type 0) (follows : ℕ → ℕ → Type 0) where
  -- ---- one worker

  -- what a new pass served
  pub worked_by : {M : Type 0} (p q : PassView M Work Reply) (links : List Served) (old new : HandView) (end : WorkerEnd) → p.seen ≡ [] → p.ours ≡ []
      → HasCalled enters p (calls_of links) q → AreSessions fits enters follows (works q.seen) (length (works p.seen)) links (length (works q.seen))
      → IsHandRun old new links end.connections end.faulted → IsWorked fits enters follows (works q.seen) old new end q.ours
  worked_by p q links old new end unseen none called sessions run = record {
    links = links;
    run = run;
    next = length (works q.seen);
    sessions = subst (λ l. AreSessions fits enters follows (works q.seen) (length (works l)) links (length (works q.seen))) unseen sessions;
    within =
        subst (λ n. StandBetween 0 n (calls_of links)) (sym (length-map q.seen (λ (e : Entry Work). e.work)))
        (subst (λ l. StandBetween (length l) (length q.seen) (calls_of links)) unseen called.positions);
    are_entered = subst (AreEntered enters (works q.seen) (calls_of links)) (sym (called.ours ∙ ap (λ l. l ++ called.entered) none)) called.are_entered;
  }

  -- what was served over a history is so over a longer one
  worked_on : (history more : List Work) (old new : HandView) (end : WorkerEnd) (entered : List Work) → IsWorked fits enters follows history old new end entered
      → IsWorked fits enters follows (history ++ more) old new end entered
  worked_on history more old new end entered is = record {
    links = is.links;
    run = is.run;
    next = is.next;
    sessions = sessions_extend fits enters follows history more 0 is.links is.next is.sessions;
    within =
        stand_wider 0 0 (length history) (length (history ++ more)) (calls_of is.links) (le_refl 0)
        (subst (λ n. length history ≤ n) (sym (length-append history more)) (le-add_right (length history) (length more))) is.within;
    are_entered = entered_extends enters history more 0 (calls_of is.links) entered is.within is.are_entered;
  }

  pub worked_over : (history now : List Work) (old new : HandView) (end : WorkerEnd) (entered : List Work) → BeginsWith now history
      → IsWorked fits enters follows history old new end entered → IsWorked fits enters follows now old new end entered
  worked_over history now old new end entered (more, is) worked =
      subst (λ h. IsWorked fits enters follows h old new end entered) (sym is) (worked_on history more old new end entered worked)

  -- ---- all workers

  pub all_worked_over : (history now : List Work) (olds news : List HandView) (ends : List WorkerEnd) (entered : List Work) → BeginsWith now history
      → AreWorked fits enters follows history olds news ends entered → AreWorked fits enters follows now olds news ends entered
  all_worked_over history now [] [] [] entered begins is = is
  all_worked_over history now (old ∷ olds) (new ∷ news) (end ∷ ends) entered begins (own, others, mixed, worked, rest) =
      (own, others, mixed, worked_over history now old new end own begins worked, all_worked_over history now olds news ends others begins rest)
  all_worked_over history now [] [] (end ∷ ends) entered begins bad = absurd bad
  all_worked_over history now [] (new ∷ news) ends entered begins bad = absurd bad
  all_worked_over history now (old ∷ olds) [] ends entered begins bad = absurd bad
  all_worked_over history now (old ∷ olds) (new ∷ news) [] entered begins bad = absurd bad

  -- one worker behind others
  add_worked : (history : List Work) (olds news : List HandView) (ends : List WorkerEnd) (old new : HandView) (end : WorkerEnd) (own others entered : List Work)
      → IsInterleaved own others entered → AreWorked fits enters follows history olds news ends others → IsWorked fits enters follows history old new end own
      → AreWorked fits enters follows history (olds ++ old ∷ []) (news ++ new ∷ []) (ends ++ end ∷ []) entered
  add_worked history [] [] [] old new end own others entered mixed none last = (own, [], subst (λ l. IsInterleaved own l entered) none mixed, last, refl)
  add_worked history (first ∷ olds) (its ∷ news) (e ∷ ends) old new end own others entered mixed (firsts, rest, parts, worked, are) last =
      let then = regroup own firsts rest others entered mixed parts in
      (firsts, then.0, then.1, worked, add_worked history olds news ends old new end own rest then.0 then.2 are last)
  add_worked history [] [] (e ∷ ends) old new end own others entered mixed bad last = absurd bad
  add_worked history [] (its ∷ news) ends old new end own others entered mixed bad last = absurd bad
  add_worked history (first ∷ olds) [] ends old new end own others entered mixed bad last = absurd bad
  add_worked history (first ∷ olds) (its ∷ news) [] old new end own others entered mixed bad last = absurd bad

  pub worked_add : {H : Type 0} (view : H → HandView) (history : List Work) (olds news all all_now : List H) (ends all_ends : List WorkerEnd) (old new : H) (end : WorkerEnd)
      (own others entered : List Work) → all ≡ olds ++ old ∷ [] → all_now ≡ news ++ new ∷ [] → all_ends ≡ ends ++ end ∷ [] → IsInterleaved own others entered
      → AreWorked fits enters follows history (map view olds) (map view news) ends others → IsWorked fits enters follows history (view old) (view new) end own
      → AreWorked fits enters follows history (map view all) (map view all_now) all_ends entered
  worked_add view history olds news all all_now ends all_ends old new end own others entered is is_now ends_are mixed rest last =
      subst (λ l. AreWorked fits enters follows history l (map view all_now) all_ends entered) (sym (ap (map view) is ∙ map-append view olds (old ∷ [])))
      (subst (λ l. AreWorked fits enters follows history (map view olds ++ view old ∷ []) l all_ends entered) (sym (ap (map view) is_now ∙ map-append view news (new ∷ [])))
      (subst (λ l. AreWorked fits enters follows history (map view olds ++ view old ∷ []) (map view news ++ view new ∷ []) l entered) (sym ends_are)
      (add_worked history (map view olds) (map view news) ends (view old) (view new) end own others entered mixed rest last)))
