-- A call that a state answers is one of a session.
use Rattle.std.proofs.Common.{◌≡◌, inl, inr, ℕ, List, [], ◌∷◌, ◌++◌, Some, length, take, refl, sym, ◌∙◌, ap, subst, arith, append-nil, length-append}
use Rattle.std.specs.Prelude.{slice_get}
use Rattle.std.proofs.Math.Seq.{take-append_seam}
use Rattle.pocket_api.specs.declared.reply.Reply.{Reply}
use Rattle.pocket_api.specs.declared.work.Work.{Work}
use Rattle.pocket_desk.specs.History.{BeginsWith}
use Rattle.pocket_desk.specs.declared.view.Call.{Call}
use Rattle.pocket_serve.specs.Owners.{Alone}
use Rattle.pocket_serve.specs.Sessions.{IsCallFrom}
use Rattle.pocket_core.specs.Answers.{IsHistoryAfter, answer}
use Rattle.pocket_states.specs.States.{MachineState}
use Rattle.pocket.specs.Calls.{StateEnters, StateFits}

get_seam : {A : Type 0} (xs : List A) (x : A) → slice_get (xs ++ x ∷ []) (length xs) ≡ Some x
get_seam [] x = refl
get_seam (y ∷ xs) x = get_seam xs x

-- ---- the call of a work

abbrev pub call_at : ℕ → Work → Reply → Call Work Reply
call_at at work reply = record { position = at; work = work; reply = reply }

module _ (opening : MachineState) (old : List Work) (work : Work) (reply : Reply) (at : ℕ) (place : at ≡ length old) (fits : StateFits opening old work reply) where
  -- the history goes on, and the call stands behind what it was
  abbrev pub Continues : List Work → Type 0
  Continues now = BeginsWith now old × IsCallFrom (StateFits opening) (StateEnters opening) Alone now (length old) (call_at at work reply) (length now)

  entered : StateEnters opening old work reply → Continues (old ++ work ∷ [])
  entered e =
      let front : take at (old ++ work ∷ []) ≡ old = ap (λ n. take n (old ++ work ∷ [])) place ∙ take-append_seam old (work ∷ []) in
      let size = length-append old (work ∷ []) in (
        (work ∷ [], refl),
        record {
          place = place;
          within = omega (arith, place, size);
          reply_fits = subst (λ l. StateFits opening l work reply) (sym front) fits;
          leads = inl (subst (λ l. StateEnters opening l work reply) (sym front) e, ap (slice_get (old ++ work ∷ [])) place ∙ get_seam old work, omega (arith, place, size));
        },
      )

  stayed : (¬ (StateEnters opening old work reply)) → Continues old
  stayed never =
      let front : take at old ≡ old = ap (λ n. take n old) place ∙ ap (take (length old)) (sym (append-nil old)) ∙ take-append_seam old [] in (
        ([], sym (append-nil old)),
        record {
          place = place;
          within = omega (arith, place);
          reply_fits = subst (λ l. StateFits opening l work reply) (sym front) fits;
          leads = inr (λ e. never (subst (λ l. StateEnters opening l work reply) front e), sym place);
        },
      )

  pub continues : (now : List Work) → IsHistoryAfter (answer opening old work) reply work old now → Continues now
  continues now (inl grown) = subst Continues (sym grown.1) (entered grown.0)
  continues now (inr same) = subst Continues (sym same.1) (stayed same.0)
