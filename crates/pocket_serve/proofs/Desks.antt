-- A call on a desk, as a call of a service.
use Rattle.std.proofs.Common.{◌≡◌, ◌⊎◌, inl, inr, ◌+◌, ◌≤◌, Bool, List, [], ◌∷◌, ◌++◌, length, take, refl, sym, ◌∙◌, ap, subst, arith, append-nil, length-append}
use Rattle.std.specs.Prelude.{slice_get}
use Rattle.std.proofs.lemmas.List.{length-map, map-append, take-map}
use Rattle.pocket_api.specs.declared.reply.Reply.{Reply}
use Rattle.pocket_api.specs.declared.work.Work.{Work}
use Rattle.pocket_desk.specs.History.{BeginsWith, entry, works}
use Rattle.pocket_desk.specs.Pass.{IsCall, IsEntered, IsNotEntered, PassView, works_before}
use Rattle.pocket_desk.specs.View.{call_of}
use Rattle.pocket_desk.specs.declared.view.Call.{Call}
use Rattle.pocket_desk.specs.declared.view.Entry.{Entry}
use Rattle.pocket_serve.specs.Entered.{AreEntered}
use Rattle.pocket_serve.specs.Owners.{Shared, SharedFits}
use Rattle.pocket_serve.specs.Passes.{HasCalled}
use Rattle.pocket_serve.specs.Sessions.{IsCallFrom, LeadsTo}
use Rattle.pocket_serve.proofs.Owned.{get_seam}

pub begins_works : (new old : List (Entry Work)) → BeginsWith new old → BeginsWith (works new) (works old)
begins_works new old (rest, e) = (works rest, ap works e ∙ map-append (λ (e : Entry Work). e.work) old rest)

module _ {M : Type 0} (fits : List Work → Work → Reply → Bool → Type 0) (enters : List Work → Work → Reply → Type 0) (p q : PassView M Work Reply) (work : Work) (reply : Reply) (is : IsCall fits enters p work q reply) where
  -- the call that was made
  abbrev pub made : Call Work Reply
  made = call_of is.position work reply

  pub seen_grows : BeginsWith (works q.seen) (works p.seen)
  seen_grows = begins_works q.seen p.seen is.seen_grows

  same_front : take is.position (works q.seen) ≡ works_before is.position q
  same_front = take-map (λ (e : Entry Work). e.work) is.position q.seen

  size : length (works q.seen) ≡ length q.seen
  size = length-map q.seen (λ (e : Entry Work). e.work)

  -- the work was entered or not, as the reply says
  abbrev Either : Type 0
  Either =
      (enters (works_before is.position q) work reply × IsEntered is.position p work q)
      ⊎ ((¬ enters (works_before is.position q) work reply) × IsNotEntered is.position p q)

  within : Either → is.position ≤ length q.seen
  within (inl (e, entered)) = omega (arith, entered.length_is)
  within (inr (never, still)) = omega (arith, still.length_is)

  leads : Either → LeadsTo (SharedFits fits) enters Shared (works q.seen) made (length (works q.seen))
  leads (inl (e, entered)) =
      let front : List Work = works (take is.position q.seen) in
      let list : works q.seen ≡ front ++ work ∷ [] = ap works entered.last ∙ map-append (λ (e : Entry Work). e.work) (take is.position q.seen) (entry p.number work ∷ []) in
      let front_size : length front ≡ is.position =
      let all : length (works q.seen) ≡ length (front ++ work ∷ []) = ap length list in
      let sum = length-append front (work ∷ []) in
      omega (arith, all, sum, size, entered.length_is) in
      inl (
        subst (λ l. enters l work reply) (sym same_front) e,
        ap (slice_get (works q.seen)) (sym front_size) ∙ ap (λ l. slice_get l (length front)) list ∙ get_seam front work,
        omega (arith, size, entered.length_is),
      )
  leads (inr (never, still)) = inr (λ e. never (subst (λ l. enters l work reply) same_front e), omega (arith, size, still.length_is))

  -- it is a call among many, from what the pass had seen to what it has seen now
  pub desk_call : IsCallFrom (SharedFits fits) enters Shared (works q.seen) (length (works p.seen)) made (length (works q.seen))
  desk_call =
      record {
        place = omega (arith, length-map p.seen (λ (e : Entry Work). e.work), is.not_before);
        within = omega (arith, size, within is.enters_once);
        reply_fits = (is.reply_fits.0, subst (λ l. fits l work reply is.reply_fits.0) (sym same_front) is.reply_fits.1);
        leads = leads is.enters_once;
      }

  -- the works that it entered, and the pass's own works with them
  abbrev Grown : Type 0
  Grown = (entered : List Work) × AreEntered enters (works q.seen) (made ∷ []) entered × (q.mine ≡ p.mine ++ entered) × (q.ours ≡ p.ours ++ entered)

  grown : Either → Grown
  grown (inl (e, entered)) = (work ∷ [], inl ([], subst (λ l. enters l work reply) (sym same_front) e, refl, refl), entered.mine, entered.ours)
  grown (inr (never, still)) = ([], inr (λ e. never (subst (λ l. enters l work reply) same_front e), refl), still.mine ∙ sym (append-nil p.mine), still.ours ∙ sym (append-nil p.ours))

  -- and what it does to the pass
  pub desk_called : HasCalled enters p (made ∷ []) q
  desk_called =
      let own = grown is.enters_once in
      record {
        number = is.number;
        held = is.held;
        calls_are = is.calls;
        seen = is.seen_grows;
        positions = (is.not_before, within is.enters_once, tt);
        entered = own.0;
        are_entered = own.1;
        mine = own.2;
        ours = own.3;
      }
