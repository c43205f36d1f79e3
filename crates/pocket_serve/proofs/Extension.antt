-- What holds of a session over a history holds over every longer one, and where more replies fit and calls may stand in more places.
use Rattle.std.proofs.Common.{◌≡◌, inl, inr, ℕ, ◌+◌, zero, suc, List, [], ◌∷◌, ◌++◌, Some, length, take, sym, subst, arith, length-append}
use Rattle.std.specs.Prelude.{slice_get}
use Rattle.std.proofs.lemmas.List.{take-append-le}
use Rattle.pocket_wire.specs.declared.request.Ended.{Ended}
use Rattle.pocket_wire.specs.declared.request.Ended.TheVariants.{Done, Closed, Refused, Truncated, Limit, SourceFault, SinkFault, Memory}
use Rattle.pocket_wire.specs.declared.request.Request.{Request}
use Rattle.pocket_api.specs.declared.reply.Reply.{Reply}
use Rattle.pocket_api.specs.declared.work.Work.{Work}
use Rattle.pocket_desk.specs.declared.view.Call.{Call}
use Rattle.pocket_serve.specs.Sessions.{LeadsTo, IsCallFrom, IsCallFor, IsExchange, Exchanges, IsWhole, IsCutOff, IsLastCall, IsCutShort, IsSession}

-- what stands in a list stands there in a longer one
pub get_extends : {A : Type 0} (h more : List A) (at : ℕ) (x : A) → slice_get h at ≡ Some x → slice_get (h ++ more) at ≡ Some x
get_extends [] more at x e = absurd (cc e)
get_extends (y ∷ h) more zero x e = e
get_extends (y ∷ h) more (suc at) x e = get_extends h more at x e

module _ (fits wider enters : List Work → Work → Reply → Type 0) (follows further : ℕ → ℕ → Type 0)
    (more_fit : (l : List Work) (work : Work) (reply : Reply) → fits l work reply → wider l work reply)
    (more_places : (seen at : ℕ) → follows seen at → further seen at) (h more : List Work) where
  leads_extends : (call : Call Work Reply) (next : ℕ) → take call.position (h ++ more) ≡ take call.position h → LeadsTo fits enters follows h call next
      → LeadsTo wider enters further (h ++ more) call next
  leads_extends call next same (inl (e, there, n)) =
      inl (subst (λ l. enters l call.work call.reply) (sym same) e, get_extends h more call.position call.work there, n)
  leads_extends call next same (inr (never, n)) = inr (λ e. never (subst (λ l. enters l call.work call.reply) same e), n)

  call_from_extends : (seen : ℕ) (call : Call Work Reply) (next : ℕ) → IsCallFrom fits enters follows h seen call next
      → IsCallFrom wider enters further (h ++ more) seen call next
  call_from_extends seen call next is =
      let same = take-append-le call.position h more is.within in
      record {
        place = more_places seen call.position is.place;
        within = omega (arith, is.within, length-append h more);
        reply_fits = more_fit (take call.position (h ++ more)) call.work call.reply (subst (λ l. fits l call.work call.reply) (sym same) is.reply_fits);
        leads = leads_extends call next same is.leads;
      }

  call_for_extends : (seen : ℕ) (request : Request) (call : Call Work Reply) (next : ℕ) → IsCallFor fits enters follows h seen request call next
      → IsCallFor wider enters further (h ++ more) seen request call next
  call_for_extends seen request call next is = record { work = is.work; call_from = call_from_extends seen call next is.call_from }

  exchange_extends : (number seen : ℕ) (request : Request) (call : Call Work Reply) (text : List ℕ) (next : ℕ)
      → IsExchange fits enters follows h number seen request call text next → IsExchange wider enters further (h ++ more) number seen request call text next
  exchange_extends number seen request call text next is = record { call_for = call_for_extends seen request call next is.call_for; text_is = is.text_is }

  pub exchanges_extend : (number seen : ℕ) (requests : List Request) (calls : List (Call Work Reply)) (said : List ℕ) (next : ℕ)
      → Exchanges fits enters follows h number seen requests calls said next → Exchanges wider enters further (h ++ more) number seen requests calls said next
  exchanges_extend number seen [] [] said next x = x
  exchanges_extend number seen [] (call ∷ calls) said next x = absurd x
  exchanges_extend number seen (request ∷ requests) [] said next x = absurd x
  exchanges_extend number seen (request ∷ requests) (call ∷ calls) said next (middle, text, rest, is, sent, x) =
      (middle, text, rest, exchange_extends number seen request call text middle is, sent, exchanges_extend (number + 1) middle requests calls rest next x)

  whole_extends : (seen : ℕ) (calls : List (Call Work Reply)) (bytes said last : List ℕ) (ended : Ended) (next : ℕ)
      → IsWhole fits enters follows h seen calls bytes said last ended next → IsWhole wider enters further (h ++ more) seen calls bytes said last ended next
  whole_extends seen calls bytes said last ended next is = record {
    requests = is.requests;
    stand = is.stand;
    exchanges = exchanges_extend 0 seen is.requests calls said next is.exchanges;
    last_is = is.last_is;
  }

  cut_off_extends : (seen : ℕ) (calls : List (Call Work Reply)) (bytes said last : List ℕ) (next : ℕ)
      → IsCutOff fits enters follows h seen calls bytes said last next → IsCutOff wider enters further (h ++ more) seen calls bytes said last next
  cut_off_extends seen calls bytes said last next is = record {
    requests = is.requests;
    request = is.request;
    stand = is.stand;
    answered = is.answered;
    call = is.call;
    calls_are = is.calls_are;
    middle = is.middle;
    exchanges = exchanges_extend 0 seen is.requests is.answered said is.middle is.exchanges;
    exchange = exchange_extends (length is.requests) is.middle is.request is.call last next is.exchange;
  }

  last_call_extends : (bytes : List ℕ) (requests : List Request) (seen : ℕ) (calls : List (Call Work Reply)) (next : ℕ)
      → IsLastCall fits enters follows h bytes requests seen calls next → IsLastCall wider enters further (h ++ more) bytes requests seen calls next
  last_call_extends bytes requests seen [] next x = x
  last_call_extends bytes requests seen (call ∷ []) next (request, first, is) = (request, first, call_for_extends seen request call next is)
  last_call_extends bytes requests seen (call ∷ other ∷ calls) next x = absurd x

  cut_short_extends : (seen : ℕ) (calls : List (Call Work Reply)) (bytes said last : List ℕ) (next : ℕ)
      → IsCutShort fits enters follows h seen calls bytes said last next → IsCutShort wider enters further (h ++ more) seen calls bytes said last next
  cut_short_extends seen calls bytes said last next is = record {
    requests = is.requests;
    stand = is.stand;
    answered = is.answered;
    behind = is.behind;
    calls_are = is.calls_are;
    middle = is.middle;
    exchanges = exchanges_extend 0 seen is.requests is.answered said is.middle is.exchanges;
    last_call = last_call_extends bytes is.requests is.middle is.behind next is.last_call;
    last_is = is.last_is;
  }

  -- the law
  pub session_extends : (seen : ℕ) (calls : List (Call Work Reply)) (bytes said last : List ℕ) (ended : Ended) (next : ℕ)
      → IsSession fits enters follows h seen calls bytes said last ended next → IsSession wider enters further (h ++ more) seen calls bytes said last ended next
  session_extends seen calls bytes said last Done next is = whole_extends seen calls bytes said last Done next is
  session_extends seen calls bytes said last Closed next is = whole_extends seen calls bytes said last Closed next is
  session_extends seen calls bytes said last (Refused status) next is = whole_extends seen calls bytes said last (Refused status) next is
  session_extends seen calls bytes said last Truncated next is = whole_extends seen calls bytes said last Truncated next is
  session_extends seen calls bytes said last Limit next is = whole_extends seen calls bytes said last Limit next is
  session_extends seen calls bytes said last SourceFault next (inl is) = inl (whole_extends seen calls bytes said last Done next is)
  session_extends seen calls bytes said last SourceFault next (inr is) = inr (whole_extends seen calls bytes said last Truncated next is)
  session_extends seen calls bytes said last SinkFault next (inl is) = inl (cut_off_extends seen calls bytes said last next is)
  session_extends seen calls bytes said last SinkFault next (inr (status, is)) = inr (status, whole_extends seen calls bytes said last (Refused status) next is)
  session_extends seen calls bytes said last Memory next is = cut_short_extends seen calls bytes said last next is
