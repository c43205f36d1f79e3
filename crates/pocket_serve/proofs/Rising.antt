-- The positions of one owner's calls.
use Rattle.std.proofs.Common.{◌≡◌, ◌⊎◌, inl, inr, ℕ, ◌+◌, List, [], ◌∷◌, ◌++◌, Some, refl, sym, subst, ◌∙◌, ap}
use Rattle.std.specs.Prelude.{slice_get}
use Rattle.pocket_wire.specs.declared.request.Ended.{Ended}
use Rattle.pocket_wire.specs.declared.request.Ended.TheVariants.{Done, Closed, Refused, Truncated, Limit, SourceFault, SinkFault, Memory}
use Rattle.pocket_wire.specs.declared.request.Request.{Request}
use Rattle.pocket_api.specs.declared.reply.Reply.{Reply}
use Rattle.pocket_api.specs.declared.work.Work.{Work}
use Rattle.pocket_desk.specs.declared.view.Call.{Call}
use Rattle.pocket_serve.specs.Owners.{Alone}
use Rattle.pocket_serve.specs.Positions.{Enters, Rise}
use Rattle.pocket_serve.specs.Sessions.{Exchanges, IsCallFrom, IsCutOff, IsCutShort, IsLastCall, IsSession, IsWhole, LeadsTo}

module _ (fits enters : List Work → Work → Reply → Type 0) (history : List Work) where
  -- one call before others
  call_before : (seen : ℕ) (call : Call Work Reply) (middle : ℕ) (calls : List (Call Work Reply)) (next : ℕ) → IsCallFrom fits enters Alone history seen call middle
      → Rise enters history middle calls next → Rise enters history seen (call ∷ calls) next
  call_before seen call middle calls next is rest = (is.place, by is.leads)
    where
      by : LeadsTo fits enters Alone history call middle
          → (Enters enters history call × (slice_get history seen ≡ Some call.work) × Rise enters history (seen + 1) calls next)
          ⊎ ((¬ (Enters enters history call)) × Rise enters history seen calls next)
      by (inl (e, there, n)) = inl (
        e,
        ap (slice_get history) (sym is.place) ∙ there,
        subst (λ m. Rise enters history m calls next) (n ∙ ap (λ p. p + 1) is.place) rest,
      )
      by (inr (never, n)) = inr (never, subst (λ m. Rise enters history m calls next) (n ∙ is.place) rest)

  exchanges_rise : (number seen : ℕ) (requests : List Request) (calls : List (Call Work Reply)) (said : List ℕ) (next : ℕ)
      → Exchanges fits enters Alone history number seen requests calls said next → Rise enters history seen calls next
  exchanges_rise number seen [] [] said next (none, n) = n
  exchanges_rise number seen [] (call ∷ calls) said next x = absurd x
  exchanges_rise number seen (request ∷ requests) [] said next x = absurd x
  exchanges_rise number seen (request ∷ requests) (call ∷ calls) said next (middle, text, rest, is, sent, x) =
      call_before seen call middle calls next is.call_for.call_from (exchanges_rise (number + 1) middle requests calls rest next x)

  -- some calls before others
  rise_more : (seen : ℕ) (calls : List (Call Work Reply)) (middle : ℕ) (more : List (Call Work Reply)) (next : ℕ) → Rise enters history seen calls middle
      → Rise enters history middle more next → Rise enters history seen (calls ++ more) next
  rise_more seen [] middle more next n rest = subst (λ m. Rise enters history m more next) n rest
  rise_more seen (call ∷ calls) middle more next (place, inl (e, there, x)) rest = (place, inl (e, there, rise_more (seen + 1) calls middle more next x rest))
  rise_more seen (call ∷ calls) middle more next (place, inr (never, x)) rest = (place, inr (never, rise_more seen calls middle more next x rest))

  rise_as : (seen : ℕ) (calls all : List (Call Work Reply)) (next : ℕ) → all ≡ calls → Rise enters history seen calls next → Rise enters history seen all next
  rise_as seen calls all next is x = subst (λ l. Rise enters history seen l next) (sym is) x

  one_rises : (seen : ℕ) (call : Call Work Reply) (next : ℕ) → IsCallFrom fits enters Alone history seen call next → Rise enters history seen (call ∷ []) next
  one_rises seen call next is = call_before seen call next [] next is refl

  last_rises : (bytes : List ℕ) (requests : List Request) (seen : ℕ) (calls : List (Call Work Reply)) (next : ℕ)
      → IsLastCall fits enters Alone history bytes requests seen calls next → Rise enters history seen calls next
  last_rises bytes requests seen [] next n = n
  last_rises bytes requests seen (call ∷ []) next (request, first, is) = one_rises seen call next is.call_from
  last_rises bytes requests seen (call ∷ other ∷ calls) next x = absurd x

  whole_rises : (seen : ℕ) (calls : List (Call Work Reply)) (bytes said last : List ℕ) (ended : Ended) (next : ℕ)
      → IsWhole fits enters Alone history seen calls bytes said last ended next → Rise enters history seen calls next
  whole_rises seen calls bytes said last ended next is = exchanges_rise 0 seen is.requests calls said next is.exchanges

  cut_off_rises : (seen : ℕ) (calls : List (Call Work Reply)) (bytes said last : List ℕ) (next : ℕ)
      → IsCutOff fits enters Alone history seen calls bytes said last next → Rise enters history seen calls next
  cut_off_rises seen calls bytes said last next is =
      rise_as seen (is.answered ++ is.call ∷ []) calls next is.calls_are
      (rise_more seen is.answered is.middle (is.call ∷ []) next (exchanges_rise 0 seen is.requests is.answered said is.middle is.exchanges)
      (one_rises is.middle is.call next is.exchange.call_for.call_from))

  cut_short_rises : (seen : ℕ) (calls : List (Call Work Reply)) (bytes said last : List ℕ) (next : ℕ)
      → IsCutShort fits enters Alone history seen calls bytes said last next → Rise enters history seen calls next
  cut_short_rises seen calls bytes said last next is =
      rise_as seen (is.answered ++ is.behind) calls next is.calls_are
      (rise_more seen is.answered is.middle is.behind next (exchanges_rise 0 seen is.requests is.answered said is.middle is.exchanges)
      (last_rises bytes is.requests is.middle is.behind next is.last_call))

  pub session_rises : (seen : ℕ) (calls : List (Call Work Reply)) (bytes said last : List ℕ) (ended : Ended) (next : ℕ)
      → IsSession fits enters Alone history seen calls bytes said last ended next → Rise enters history seen calls next
  session_rises seen calls bytes said last Done next is = whole_rises seen calls bytes said last Done next is
  session_rises seen calls bytes said last Closed next is = whole_rises seen calls bytes said last Closed next is
  session_rises seen calls bytes said last (Refused status) next is = whole_rises seen calls bytes said last (Refused status) next is
  session_rises seen calls bytes said last Truncated next is = whole_rises seen calls bytes said last Truncated next is
  session_rises seen calls bytes said last Limit next is = whole_rises seen calls bytes said last Limit next is
  session_rises seen calls bytes said last SourceFault next (inl is) = whole_rises seen calls bytes said last Done next is
  session_rises seen calls bytes said last SourceFault next (inr is) = whole_rises seen calls bytes said last Truncated next is
  session_rises seen calls bytes said last SinkFault next (inl is) = cut_off_rises seen calls bytes said last next is
  session_rises seen calls bytes said last SinkFault next (inr (status, is)) = whole_rises seen calls bytes said last (Refused status) next is
  session_rises seen calls bytes said last Memory next is = cut_short_rises seen calls bytes said last next is
