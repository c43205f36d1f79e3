-- From the course of a call to its outcome.
use Rattle.std.proofs.Common.{◌≡◌, ◌∙◌, ℕ, List, Option, Result, Ok, Err, IfOk, ap, refl, subst, sym}
use Rattle.std.specs.Prelude.{IsErr, MatchResult}
use Rattle.std.proofs.lemmas.Bool.{false≢true}
use Rattle.pocket_types.specs.Chains.{◌>>=◌}
use Rattle.pocket_types.specs.declared.deltas.Delta.{Delta}
use Rattle.pocket_types.specs.declared.json.Jv.{Jv}
use Rattle.pocket_types.specs.declared.requests.Ask.{Ask}
use Rattle.pocket_tables.specs.Kept.{Kept}
use Rattle.pocket_states.specs.States.{MachineState}
use Rattle.pocket_api.specs.Refusals.{Refusal, because}
use Rattle.pocket_api.specs.declared.call.Call.{Call}
use Rattle.pocket_api.specs.declared.call.Call.TheVariants as call
use Rattle.pocket_api.specs.declared.call.ListQuery.{ListQuery}
use Rattle.pocket_api.specs.declared.call.Shown.{Shown}
use Rattle.pocket_api.specs.declared.call.Target.{Target}
use Rattle.pocket_api.specs.declared.reply.Reply.{Reply}
use Rattle.pocket_api.specs.declared.why.Why.{Why}
use Rattle.pocket_api.specs.declared.why.Why.TheVariants as why
use Rattle.pocket_core.specs.Answers.{IsAnswer, answer_of, call_outcome}
use Rattle.pocket_core.specs.Changing.{Put, put_outcome}
use Rattle.pocket_core.specs.Courses.{GivesPlan, IsCourse, IsPlannedCourse, outcome_in, state_in}
use Rattle.pocket_core.specs.Outcomes.{IsReading, Outcome}
use Rattle.pocket_core.specs.declared.callers.Rest.{Rest}
use Rattle.pocket_core.specs.declared.courses.Course.{Course}
use Rattle.pocket_core.specs.declared.courses.Course.TheVariants as course

module _ (at : ℕ) (tables : Kept) (ask : Ask) (rest : Rest) where
  abbrev pub AreCourses : {E : Type 0} → Result Course E → Type 0
  AreCourses result = IfOk result (λ c. (s : MachineState) → IsCourse at s tables ask rest c)

  module _ (o : Outcome) (is : (s : MachineState) → outcome_in s tables.world ask rest ≡ o) (reads : IsReading o) where
    said_course : (reply : Reply) → IsAnswer (answer_of at o) reply → (s : MachineState) → IsCourse at s tables ask rest (course.Replies reply)
    said_course reply said s = (subst IsReading (sym (is s)) reads, subst (λ p. IsAnswer (answer_of at p) reply) (sym (is s)) said)

    -- a reply that is the outcome is the course
    pub reply_course : {E : Type 0} (said : Result Reply E) (result : Result Course E) → IfOk said (IsAnswer (answer_of at o))
        → MatchResult said (λ r. IfOk result (λ c. c ≡ course.Replies r)) (λ _. IsErr result) → AreCourses result
    reply_course (Ok r) (Ok c) answers same = λ s. subst (IsCourse at s tables ask rest) (sym same) (said_course r answers s)
    reply_course (Ok r) (Err e) answers same = tt
    reply_course (Err e) (Ok c) answers same = absurd (false≢true same)
    reply_course (Err e) (Err f) answers same = tt

  -- a record that is planned is the course, or the reply that says why it isn't put
  pub put_course : {E : Type 0} (shown : Shown) (made : Result Put Refusal)
      → ((s : MachineState) → outcome_in s tables.world ask rest ≡ (made >>= put_outcome (state_in s tables.world) ask shown))
      → (delta : Result Delta Why) → GivesPlan tables delta made → (result : Result Course E) → IfOk result (IsPlannedCourse at shown delta) → AreCourses result
  put_course shown made is (Ok d) plan (Ok c) same =
      λ s.
      subst (IsCourse at s tables ask rest) (sym same)
      (shown, plan.0, refl, plan.2, is s ∙ ap (λ m. m >>= put_outcome (state_in s tables.world) ask shown) plan.1)
  put_course shown made is (Err cause) known (Ok c) told =
      let refused : made ≡ Err (because cause) = known told.2 in
      λ s.
      subst (IsCourse at s tables ask rest) (sym told.1)
      (said_course (Err (because cause)) (λ t. is t ∙ ap (λ m. m >>= put_outcome (state_in t tables.world) ask shown) refused) tt told.0 told.3 s)
  put_course shown made is delta plan (Err e) same = tt

-- a call that isn't answered yet has no route
pub no_route : (s : MachineState) (ask : Ask) (words : List ℕ) (k : Call) → ((name : List ℕ) (query : ListQuery) → k ≡ call.List name query → ⊥)
    → ((target : Target) (shown : Shown) → k ≡ call.View target shown → ⊥)
    → ((name : List ℕ) (body : Option Jv) (shown : Shown) → k ≡ call.Create name body shown → ⊥)
    → ((target : Target) (body : Option Jv) (shown : Shown) → k ≡ call.Update target body shown → ⊥)
    → call_outcome s ask words k ≡ Err (because why.NoRoute)
no_route s ask words (call.List name query) list view create update = absurd (list name query refl)
no_route s ask words (call.View target shown) list view create update = absurd (view target shown refl)
no_route s ask words (call.Create name body shown) list view create update = absurd (create name body shown refl)
no_route s ask words (call.Update target body shown) list view create update = absurd (update target body shown refl)
no_route s ask words _ list view create update = refl
