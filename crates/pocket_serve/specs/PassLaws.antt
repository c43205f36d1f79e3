-- Calls of a pass go on from one another.
use Rattle.std.specs.Prelude.{◌≡◌, ◌≤◌, ℕ, ◌+◌, List, [], ◌∷◌, ◌++◌, length}
use Rattle.std.proofs.Common.{refl, ap, sym, subst, ◌∙◌, inl, inr, length-append}
use Rattle.std.proofs.Math.Nat.{le-add_right, le_trans}
use Rattle.std.proofs.lemmas.List.{length-map, map-append, take-append-le}
use Rattle.pocket_api.specs.declared.reply.Reply.{Reply}
use Rattle.pocket_api.specs.declared.work.Work.{Work}
use Rattle.pocket_desk.specs.History.{BeginsWith, works}
use Rattle.pocket_desk.specs.Pass.{PassView}
use Rattle.pocket_desk.specs.declared.view.Call.{Call}
use Rattle.pocket_desk.specs.declared.view.Entry.{Entry}
use Rattle.pocket_serve.specs.Entered.{AreEntered, StandBetween}
use Rattle.pocket_serve.specs.Growing.{adds_more, adds_none}
use Rattle.pocket_serve.specs.Passes.{HasCalled}

-- ---- positions

pub stand_wider : (low lower high higher : ℕ) (calls : List (Call Work Reply)) → lower ≤ low → high ≤ higher → StandBetween low high calls
    → StandBetween lower higher calls
stand_wider low lower high higher [] below above stand = tt
stand_wider low lower high higher (call ∷ calls) below above (after, before, stand) =
    (le_trans below after, le_trans before above, stand_wider low lower high higher calls below above stand)

stand_more : (low high : ℕ) (calls more : List (Call Work Reply)) → StandBetween low high calls → StandBetween low high more
    → StandBetween low high (calls ++ more)
stand_more low high [] more first second = second
stand_more low high (call ∷ calls) more (after, before, first) second = (after, before, stand_more low high calls more first second)

not_longer : {A : Type 0} (list beginning : List A) → BeginsWith list beginning → length beginning ≤ length list
not_longer list beginning (rest, is) =
    subst (λ n. length beginning ≤ n) (sym (ap length is ∙ length-append beginning rest)) (le-add_right (length beginning) (length rest))

-- ---- entered works

module _ (enters : List Work → Work → Reply → Type 0) where
  -- what is entered in a history is entered in a longer one
  pub entered_extends : (history more : List Work) (low : ℕ) (calls : List (Call Work Reply)) (entered : List Work)
      → StandBetween low (length history) calls → AreEntered enters history calls entered → AreEntered enters (history ++ more) calls entered
  entered_extends history more low [] entered stand is = is
  entered_extends history more low (call ∷ calls) entered (after, before, stand) (inl (rest, enters_it, first, is)) = inl (
    rest,
    subst (λ l. enters l call.work call.reply) (sym (take-append-le call.position history more before)) enters_it,
    first,
    entered_extends history more low calls rest stand is,
  )
  entered_extends history more low (call ∷ calls) entered (after, before, stand) (inr (never, is)) = inr (
    λ enters_it. never (subst (λ l. enters l call.work call.reply) (take-append-le call.position history more before) enters_it),
    entered_extends history more low calls entered stand is,
  )

  entered_more : (history : List Work) (calls more : List (Call Work Reply)) (first second : List Work) → AreEntered enters history calls first
      → AreEntered enters history more second → AreEntered enters history (calls ++ more) (first ++ second)
  entered_more history [] more first second none rest =
      subst (λ l. AreEntered enters history more (l ++ second)) (sym none) rest
  entered_more history (call ∷ calls) more first second (inl (others, enters_it, is, entered)) rest = inl (
    others ++ second,
    enters_it,
    ap (λ l. l ++ second) is,
    entered_more history calls more others second entered rest,
  )
  entered_more history (call ∷ calls) more first second (inr (never, entered)) rest =
      inr (never, entered_more history calls more first second entered rest)

  module _ {M : Type 0} where
    -- a pass that called nothing
    pub called_none : (p : PassView M Work Reply) → HasCalled enters p [] p
    called_none p = record {
      number = refl;
      held = refl;
      calls_are = adds_none p.calls;
      seen = ([], adds_none p.seen);
      positions = tt;
      entered = [];
      are_entered = refl;
      mine = adds_none p.mine;
      ours = adds_none p.ours;
    }

    -- what was entered among the works that a pass had seen is so among those that it has seen now
    entered_now : (p q r : PassView M Work Reply) (calls : List (Call Work Reply)) (entered : List Work) → BeginsWith r.seen q.seen
        → StandBetween (length p.seen) (length q.seen) calls → AreEntered enters (works q.seen) calls entered → AreEntered enters (works r.seen) calls entered
    entered_now p q r calls entered (rest, is) stand before =
        let same : works r.seen ≡ works q.seen ++ works rest = ap works is ∙ map-append (λ (e : Entry Work). e.work) q.seen rest in
        let size : length q.seen ≡ length (works q.seen) = sym (length-map q.seen (λ (e : Entry Work). e.work)) in
        subst (λ h. AreEntered enters h calls entered) (sym same)
        (entered_extends (works q.seen) (works rest) (length p.seen) calls entered (subst (λ n. StandBetween (length p.seen) n calls) size stand) before)

    pub called_more : (p q r : PassView M Work Reply) (calls more : List (Call Work Reply)) → HasCalled enters p calls q → HasCalled enters q more r
        → HasCalled enters p (calls ++ more) r
    called_more p q r calls more first second = record {
      number = second.number ∙ first.number;
      held = second.held ∙ first.held;
      calls_are = adds_more p.calls q.calls r.calls calls more first.calls_are second.calls_are;
      seen = (first.seen.0 ++ second.seen.0, adds_more p.seen q.seen r.seen first.seen.0 second.seen.0 first.seen.1 second.seen.1);
      positions =
          stand_more (length p.seen) (length r.seen) calls more
          (stand_wider (length p.seen) (length p.seen) (length q.seen) (length r.seen) calls (not_longer p.seen p.seen ([], adds_none p.seen)) (not_longer r.seen q.seen second.seen) first.positions)
          (stand_wider (length q.seen) (length p.seen) (length r.seen) (length r.seen) more (not_longer q.seen p.seen first.seen) (not_longer r.seen r.seen ([], adds_none r.seen)) second.positions);
      entered = first.entered ++ second.entered;
      are_entered =
          entered_more (works r.seen) calls more first.entered second.entered
          (entered_now p q r calls first.entered second.seen first.positions first.are_entered) second.are_entered;
      mine = adds_more p.mine q.mine r.mine first.entered second.entered first.mine second.mine;
      ours = adds_more p.ours q.ours r.ours first.entered second.entered first.ours second.ours;
    }

-- the same where what enters is the matter of a desk, which stays the same
pub called_more_at : {S M : Type 0} (enters : S → List Work → Work → Reply → Type 0) (desk desk_now : S) (p q r : PassView M Work Reply)
    (calls more : List (Call Work Reply)) → desk_now ≡ desk → HasCalled (enters desk) p calls q → HasCalled (enters desk_now) q more r
    → HasCalled (enters desk) p (calls ++ more) r
called_more_at enters desk desk_now p q r calls more same first second =
    called_more (enters desk) p q r calls more first (subst (λ d. HasCalled (enters d) q more r) same second)
