-- A call of a machine with one owner, as a call of a service.
use Rattle.std.proofs.Common.{◌≡◌, inl, inr, ℕ, List, [], ◌∷◌, ◌++◌, Some, length, take, refl, sym, ◌∙◌, ap, subst, arith, append-nil, length-append}
use Rattle.std.specs.Prelude.{slice_get}
use Rattle.std.proofs.Math.Seq.{take-append_seam}
use Rattle.pocket_api.specs.declared.reply.Reply.{Reply}
use Rattle.pocket_api.specs.declared.work.Work.{Work}
use Rattle.pocket_desk.specs.History.{BeginsWith}
use Rattle.pocket_desk.specs.Machine.{AddsWhere}
use Rattle.pocket_desk.specs.View.{call_of}
use Rattle.pocket_serve.specs.Owners.{Alone}
use Rattle.pocket_serve.specs.Sessions.{IsCallFrom}

pub get_seam : {A : Type 0} (xs : List A) (x : A) → slice_get (xs ++ x ∷ []) (length xs) ≡ Some x
get_seam [] x = refl
get_seam (y ∷ xs) x = get_seam xs x

module _ (fits enters : List Work → Work → Reply → Type 0) (old : List Work) (work : Work) (reply : Reply) (at : ℕ) (place : at ≡ length old) (is_fit : fits old work reply) where
  abbrev pub Made : List Work → Type 0
  Made new = BeginsWith new old × IsCallFrom fits enters Alone new (length old) (call_of at work reply) (length new)

  entered : enters old work reply → Made (old ++ work ∷ [])
  entered e =
      let front : take at (old ++ work ∷ []) ≡ old = ap (λ n. take n (old ++ work ∷ [])) place ∙ take-append_seam old (work ∷ []) in
      let size = length-append old (work ∷ []) in (
        (work ∷ [], refl),
        record {
          place = place;
          within = omega (arith, place, size);
          reply_fits = subst (λ l. fits l work reply) (sym front) is_fit;
          leads = inl (
            subst (λ l. enters l work reply) (sym front) e,
            ap (slice_get (old ++ work ∷ [])) place ∙ get_seam old work,
            omega (arith, place, size),
          );
        },
      )

  other : (¬ (enters old work reply)) → Made old
  other never =
      let front : take at old ≡ old = ap (λ n. take n old) place ∙ ap (take (length old)) (sym (append-nil old)) ∙ take-append_seam old [] in (
        ([], sym (append-nil old)),
        record {
          place = place;
          within = omega (arith, place);
          reply_fits = subst (λ l. fits l work reply) (sym front) is_fit;
          leads = inr (λ e. never (subst (λ l. enters l work reply) front e), sym place);
        },
      )

  -- a call right behind the history, to which it adds its work where it enters it
  pub own_call : (new : List Work) → AddsWhere (enters old work reply) old work new → Made new
  own_call new (inl (e, is)) = subst Made (sym is) (entered e)
  own_call new (inr (never, is)) = subst Made (sym is) (other never)
