-- What a history comes to, one command after another, and what a full history refuses.
use Rattle.std.proofs.Common.{◌≡◌, ◌∙◌, ℕ, ◌+◌, true, false, List, [], ◌∷◌, ◌++◌, Result, Ok, Err, ap, arith, fold, length, refl}
use Rattle.std.specs.Prelude.{◌&&◌}
use Rattle.std.proofs.lemmas.List.Sums.{fold_push}
use Rattle.pocket_types.specs.Chains.{◌>>=◌, refuse}
use Rattle.pocket_api.specs.Refusals.{Refusal}
use Rattle.pocket_api.specs.declared.work.Work.{Work}
use Rattle.pocket_states.specs.States.{MachineState}
use Rattle.pocket_core.specs.Answers.{after, after_from, answer_of, counted, full_history, is_full, no_commands, outcome, tally_of, work_outcome}
use Rattle.pocket_core.specs.Outcomes.{Accepted, Body, Empty, Enters, IsReading, Outcome, Shows, Tally, Tree, is_entered, state_after}

-- ---- one command more

pub tally_more : (history : List Work) (work : Work) → tally_of (history ++ work ∷ []) ≡ counted (tally_of history) work
tally_more history work = fold_push counted no_commands history work

entries_from : (t : Tally) (works : List Work) → (fold counted t works).entries ≡ t.entries + length works
entries_from t [] = omega arith
entries_from t (work ∷ works) = entries_from (counted t work) works ∙ omega arith

-- a history has as many commands as works
pub entries_are : (history : List Work) → (tally_of history).entries ≡ length history
entries_are history = entries_from no_commands history ∙ omega arith

after_more_from : (t : Tally) (s : MachineState) (works : List Work) (work : Work)
    → after_from t s (works ++ work ∷ [])
    ≡ state_after (after_from t s works) (outcome (fold counted t works) (after_from t s works) work)
after_more_from t s [] work = refl
after_more_from t s (first ∷ works) work = after_more_from (counted t first) (state_after s (outcome t s first)) works work

pub after_more : (opening : MachineState) (history : List Work) (work : Work)
    → after opening (history ++ work ∷ [])
    ≡ state_after (after opening history) (outcome (tally_of history) (after opening history) work)
after_more opening history work = after_more_from no_commands opening history work

-- ---- what isn't entered

-- a step before an outcome doesn't enter it
pub step_reads : {A : Type 0} (x : Result A Refusal) (f : A → Outcome) → ((a : A) → IsReading (f a)) → IsReading (x >>= f)
step_reads (Ok a) f h = h a
step_reads (Err e) f h = tt

-- it is answered so
pub answer_reads : (at : ℕ) (o : Outcome) → IsReading o → (answer_of at o).enters ≡ false
answer_reads at (Ok (Shows Empty)) h = refl
answer_reads at (Ok (Shows (Tree tree))) h = refl
answer_reads at (Ok (Enters s body)) h = absurd (cc h)
answer_reads at (Err r) h = refl

-- ---- the outcome with the history that is there

module _ (t : Tally) (s : MachineState) (work : Work) where
  -- what a full history makes of an accepted call
  abbrev kept_out : Accepted → Outcome
  kept_out done = refuse (is_entered done && is_full t work) (full_history t work) >>= λ _. Ok done

  -- a full history keeps out nothing that isn't entered
  pub outcome_reads : IsReading (work_outcome s work) → outcome t s work ≡ work_outcome s work
  unfolding outcome
  outcome_reads h = by (work_outcome s work) h
    where
      by : (o : Outcome) → IsReading o → (o >>= kept_out) ≡ o
      by (Ok (Shows body)) h = refl
      by (Ok (Enters next body)) h = absurd (cc h)
      by (Err r) h = refl

  module _ (next : MachineState) (body : Body) (asked : work_outcome s work ≡ Ok (Enters next body)) where
    -- what would be entered is refused by a full history
    pub outcome_full : is_full t work ≡ true → outcome t s work ≡ Err (full_history t work)
    unfolding outcome
    outcome_full full =
        ap (λ o. o >>= kept_out) asked ∙ ap (λ b. refuse b (full_history t work) >>= λ _. Ok (Enters next body)) full

    -- and is entered into one that isn't full
    pub outcome_enters : is_full t work ≡ false → outcome t s work ≡ Ok (Enters next body)
    unfolding outcome
    outcome_enters free =
        ap (λ o. o >>= kept_out) asked ∙ ap (λ b. refuse b (full_history t work) >>= λ _. Ok (Enters next body)) free
