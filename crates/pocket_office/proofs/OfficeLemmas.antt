-- What a call leaves of an office.
use Rattle.std.proofs.Common.{◌≡◌, ◌⊎◌, ◌≤◌, inl, inr, ℕ, zero, suc, List, [], ◌∷◌, ◌++◌, Option, Some, None, take, refl, sym, subst, arith}
use Rattle.std.specs.Prelude.{slice_get, IsTrue}
use Rattle.std.proofs.lemmas.Option.{none-some, same_Some}
use Rattle.pocket_types.specs.Causes.{Rose, StaysUntold}
use Rattle.pocket_keeper.specs.declared.rows.KeptRow.{KeptRow}
use Rattle.pocket_api.specs.declared.reply.Reply.{Reply}
use Rattle.pocket_api.specs.declared.work.Work.{Work}
use Rattle.pocket_desk.specs.Machine.{has_risen}
use Rattle.pocket_states.specs.States.{MachineState, StateView}
use Rattle.pocket_core.specs.Answers.{IsHistoryAfter, after, answer}
use Rattle.pocket_core.specs.Entering.{IsCounted, IsReply}
use Rattle.pocket_core.specs.Opening.{AreRowsOf}
use Rattle.pocket_office.specs.Offices.{AreAccepted, counted, IsOffice, IsOfficeReply, OfficeView}

-- ---- histories

-- what holds of each item and those before it, and of one item more behind all
each_more : {A : Type 0} (P : List A → A → Type 0) (xs : List A) (x : A) → ((place : ℕ) (y : A) → slice_get xs place ≡ Some y → P (take place xs) y)
    → P xs x → (place : ℕ) (y : A) → slice_get (xs ++ x ∷ []) place ≡ Some y → P (take place (xs ++ x ∷ [])) y
each_more P [] x each last zero y e = subst (P []) (same_Some x y e) last
each_more P [] x each last (suc n) y e = absurd (none-some y e)
each_more P (z ∷ xs) x each last zero y e = each zero y e
each_more P (z ∷ xs) x each last (suc n) y e = each_more (λ l. P (z ∷ l)) xs x (λ place w is. each (suc place) w is) last n y e

accepted_none : (opening : MachineState) → AreAccepted opening []
accepted_none opening zero work e = absurd (none-some work e)
accepted_none opening (suc place) work e = absurd (none-some work e)

accepted_after : (opening : MachineState) (old now : List Work) (work : Work) (reply : Reply) → AreAccepted opening old
    → IsHistoryAfter (answer opening old work) reply work old now → AreAccepted opening now
accepted_after opening old now work reply accepted (inl (entered, is)) =
    subst (AreAccepted opening) (sym is) (each_more (λ before next. IsTrue (answer opening before next).enters) old work accepted entered.1)
accepted_after opening old now work reply accepted (inr (never, is)) = subst (AreAccepted opening) (sym is) accepted

-- ---- replies

risen : (before now : ℕ) → Rose before now → IsTrue (has_risen (counted before) (counted now))
risen before now rose = grind arith

pub counted_later : (before now : ℕ) → before ≤ now → counted before ≤ counted now
counted_later before now later = omega (arith, later)

pub office_reply : (opening : MachineState) (history : List Work) (work : Work) (reply : Reply) (before now : ℕ) → IsReply opening history work reply
    → IsCounted before now reply → IsOfficeReply opening history work reply (has_risen (counted before) (counted now))
office_reply opening history work reply before now (inl said) counted = inl said
office_reply opening history work reply before now (inr (inl wanting)) counted = inr (inl wanting)
office_reply opening history work reply before now (inr (inr unkept)) counted = inr (inr (risen before now (counted.failed unkept.said.status), unkept))

-- ---- offices

module _ {K : Type 0} (told : K → Option (List KeptRow)) (count : K → ℕ) where
  -- of a state that was just opened
  pub office_at_first : (state : StateView) (keeper : K) → state.journal ≡ [] → AreRowsOf (told keeper) state.opening
      → IsOffice told count (record { state = state; keeper = keeper; first = keeper })
  office_at_first state keeper fresh rows = record {
    rows = subst (λ journal. AreRowsOf (told keeper) (after state.opening journal)) (sym fresh) rows;
    accepted = subst (AreAccepted state.opening) (sym fresh) (accepted_none state.opening);
    untold = λ none. none;
    later = omega arith;
  }

  pub office_after : (old new : OfficeView K) (work : Work) (reply : Reply) → IsOffice told count old → new.state.opening ≡ old.state.opening
      → new.first ≡ old.first → IsHistoryAfter (answer old.state.opening old.state.journal work) reply work old.state.journal new.state.journal
      → AreRowsOf (told new.keeper) (after new.state.opening new.state.journal) → StaysUntold (told old.keeper) (told new.keeper)
      → count old.keeper ≤ count new.keeper → IsOffice told count new
  office_after old new work reply office opening first history rows untold later = record {
    rows = rows;
    accepted =
        subst (λ o. AreAccepted o new.state.journal) (sym opening)
        (accepted_after old.state.opening old.state.journal new.state.journal work reply office.accepted history);
    untold = subst (λ k. StaysUntold (told k) (told new.keeper)) (sym first) (λ none. untold (office.untold none));
    later = subst (λ k. count k ≤ count new.keeper) (sym first) (omega (arith, office.later, later));
  }
