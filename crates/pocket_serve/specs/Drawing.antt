-- What a session says of the clock and the dice.
use Rattle.std.specs.Prelude.{◌≡◌, ◌⊎◌, ℕ, ◌+◌, ◌-◌, ◌^◌, ◌≤◌, List, [], ◌++◌, map, length, Option, Some, None, ⊤}
use Rattle.std.specs.List.{flat_map}
use Rattle.pocket_types.specs.declared.moments.Moment.{Moment}
use Rattle.pocket_wire.specs.declared.request.Ended.{Ended}
use Rattle.pocket_wire.specs.declared.request.Ended.TheVariants.{Memory}
use Rattle.pocket_api.specs.declared.reply.Reply.{Reply}
use Rattle.pocket_api.specs.declared.work.Draw.{Draw}
use Rattle.pocket_api.specs.declared.work.Work.{Work}
use Rattle.pocket_desk.specs.declared.view.Call.{Call}

-- told answers grow by these, and are told on until there are 2 ^ 64 - 1 of them; answers that weren't told are not told now
abbrev pub AddsAnswers : {T : Type 0} → Option (List T) → Option (List T) → List T → Type 0
AddsAnswers None None answers = ⊤
AddsAnswers None (Some now) answers = ⊥
AddsAnswers (Some before) None answers = 2 ^ 64 - 1 ≤ length before + length answers
AddsAnswers (Some before) (Some now) answers = now ≡ before ++ answers

abbrev pub draws_of : List (Call Work Reply) → List Draw
draws_of calls = map (λ call. call.work.draw) calls

abbrev pub moments_of : List Draw → List Moment
moments_of draws = map (λ draw. draw.moment) draws

abbrev pub words_of : List Draw → List ℕ
words_of draws = flat_map (λ draw. draw.words) draws

-- these draws, each one moment and two words, were taken in their order
pub record AreDrawn (moments moments_now : Option (List Moment)) (words words_now : Option (List ℕ)) (draws : List Draw) : Type 0 where
  pub told_moments : AddsAnswers moments moments_now (moments_of draws)
  pub told_words : AddsAnswers words words_now (words_of draws)

-- these draws were taken, and where a session ended for want of memory perhaps one more
pub record IsDrawn (moments moments_now : Option (List Moment)) (words words_now : Option (List ℕ)) (draws : List Draw) (ended : Ended) : Type 0 where
  pub more : List Draw
  pub drawn : AreDrawn moments moments_now words words_now (draws ++ more)
  pub at_most_one : (more ≡ []) ⊎ ((length more ≡ 1) × (ended ≡ Memory))
