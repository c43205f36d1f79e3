-- From one step of the session to its end.
use Rattle.std.proofs.Common.{◌≡◌, ◌⊎◌, inl, inr, ℕ, ◌+◌, ◌≤◌, ◌<◌, List, [], ◌∷◌, ◌++◌, Option, Some, None, Result, Ok, Err, true, length, take, refl, sym, ◌∙◌, ap, subst, arith, append_assoc, append-nil, length-append}
use Rattle.std.specs.Io.KnownBytes.{Appends, Consumes}
use Rattle.std.proofs.lemmas.List.{map-append}
use Rattle.pocket_types.specs.Causes.{Rose}
use Rattle.pocket_types.specs.declared.moments.Moment.{Moment}
use Rattle.pocket_wire.specs.Phrases.{refused_bytes}
use Rattle.pocket_wire.specs.Reading.{IsRead}
use Rattle.pocket_wire.specs.Requests.{BeginsWithRequest, EndsAs, IsDecided, RequestsOf}
use Rattle.pocket_wire.specs.declared.request.Ended.{Ended}
use Rattle.pocket_wire.specs.declared.request.Ended.TheVariants as ended
use Rattle.pocket_wire.specs.declared.request.Next.{Next}
use Rattle.pocket_wire.specs.declared.request.Next.TheVariants as next
use Rattle.pocket_wire.specs.declared.request.Request.{Request}
use Rattle.pocket_wire.specs.declared.request.WireFault.{WireFault}
use Rattle.pocket_wire.specs.declared.request.WireFault.TheVariants as fault
use Rattle.pocket_api.specs.Replies.{no_memory_bytes}
use Rattle.pocket_api.specs.declared.reply.Reply.{Reply}
use Rattle.pocket_api.specs.declared.work.Draw.{Draw}
use Rattle.pocket_api.specs.declared.work.Work.{Work}
use Rattle.pocket_desk.specs.History.{BeginsWith}
use Rattle.pocket_desk.specs.declared.view.Call.{Call}
use Rattle.pocket_serve.specs.Drawing.{AddsAnswers, AreDrawn, IsDrawn, draws_of, moments_of, words_of}
use Rattle.pocket_serve.specs.Sending.{Takes, TakesFront, TakesPart, TakesSome, end_bytes}
use Rattle.pocket_serve.specs.Serving.{GoesOn, IsAnswered, IsCalled, IsRefusal, IsUncalled}
use Rattle.pocket_serve.specs.Sessions.{Exchanges, IsCutShort, IsExchange, IsLastCall, IsSession, IsWhole}
use Rattle.pocket_serve.proofs.UnderWay.{IsUnderWay, exchanges_so_far, first_so_far, first_with, goes_on, stands_closed, stands_ended, stands_full, then_one}

-- ---- the sink

appends_through : (a b c : Option (List ℕ)) (x y : List ℕ) → Appends a b x → Appends b c y → Appends a c (x ++ y)
appends_through None b c x y first second = tt
appends_through (Some a) None c x y first second = absurd first
appends_through (Some a) (Some b) None x y first second = absurd second
appends_through (Some a) (Some b) (Some c) x y first second = second ∙ ap (λ s. s ++ y) first ∙ append_assoc a x y

rose_earlier : (first before now : ℕ) → first ≤ before → Rose before now → Rose first now
rose_earlier first before now low rose = grind (arith, low, rose)

-- what isn't touched grows by nothing
pub appends_none : (told : Option (List ℕ)) → Appends told told []
appends_none None = tt
appends_none (Some bytes) = sym (append-nil bytes)

pub appends_nothing_more : (a b : Option (List ℕ)) (said : List ℕ) → Appends a b said → Appends a b (said ++ [])
appends_nothing_more a b said took = subst (λ o. Appends a b o) (sym (append-nil said)) took

-- ---- the source

pub consumes_none : (a : Option (List ℕ)) → Consumes a a []
consumes_none None = tt
consumes_none (Some a) = refl

pub consumes_through : (a b c : Option (List ℕ)) (x y : List ℕ) → Consumes a b x → Consumes b c y → Consumes a c (x ++ y)
consumes_through None b c x y one two = tt
consumes_through (Some a) None c x y one two = absurd one
consumes_through (Some a) (Some b) None x y one two = absurd two
consumes_through (Some a) (Some b) (Some c) x y one two = one ∙ ap (λ s. x ++ s) two ∙ sym (append_assoc x y c)

-- ---- clock and dice

adds_through : {T : Type 0} (a b c : Option (List T)) (x y : List T) → AddsAnswers a b x → AddsAnswers b c y → AddsAnswers a c (x ++ y)
adds_through None None None x y first second = tt
adds_through None None (Some c) x y first second = absurd second
adds_through None (Some b) c x y first second = absurd first
adds_through (Some a) None None x y first second = omega (arith, first, length-append x y)
adds_through (Some a) None (Some c) x y first second = absurd second
adds_through (Some a) (Some b) None x y first second = omega (arith, second, ap length first, length-append a x, length-append x y)
adds_through (Some a) (Some b) (Some c) x y first second = second ∙ ap (λ s. s ++ y) first ∙ append_assoc a x y

pub adds_none : {T : Type 0} (a : Option (List T)) → AddsAnswers a a []
adds_none None = tt
adds_none (Some a) = sym (append-nil a)

words-append : (one two : List Draw) → words_of (one ++ two) ≡ words_of one ++ words_of two
words-append [] two = refl
words-append (draw ∷ one) two = ap (λ l. draw.words ++ l) (words-append one two) ∙ sym (append_assoc draw.words (words_of one) (words_of two))

pub drawn_through : (m0 m1 m2 : Option (List Moment)) (w0 w1 w2 : Option (List ℕ)) (one two : List Draw) → AreDrawn m0 m1 w0 w1 one → AreDrawn m1 m2 w1 w2 two
    → AreDrawn m0 m2 w0 w2 (one ++ two)
drawn_through m0 m1 m2 w0 w1 w2 one two a b = record {
  told_moments = subst (λ l. AddsAnswers m0 m2 l) (sym (map-append (λ (draw : Draw). draw.moment) one two)) (adds_through m0 m1 m2 (moments_of one) (moments_of two) a.told_moments b.told_moments);
  told_words = subst (λ l. AddsAnswers w0 w2 l) (sym (words-append one two)) (adds_through w0 w1 w2 (words_of one) (words_of two) a.told_words b.told_words);
}

pub drawn_nothing : (m : Option (List Moment)) (w : Option (List ℕ)) → AreDrawn m m w w []
drawn_nothing m w = record { told_moments = adds_none m; told_words = adds_none w }

draws-append : (one two : List (Call Work Reply)) → draws_of (one ++ two) ≡ draws_of one ++ draws_of two
draws-append one two = map-append (λ (call : Call Work Reply). call.work.draw) one two

pub drawn_so : (m0 m1 : Option (List Moment)) (w0 w1 : Option (List ℕ)) (draws : List Draw) (end : Ended) → AreDrawn m0 m1 w0 w1 draws → IsDrawn m0 m1 w0 w1 draws end
drawn_so m0 m1 w0 w1 draws end d = record { more = []; drawn = subst (λ l. AreDrawn m0 m1 w0 w1 l) (sym (append-nil draws)) d; at_most_one = inl refl }

-- ---- histories

pub begins_through : {A : Type 0} (a b c : List A) → BeginsWith b a → BeginsWith c b → BeginsWith c a
begins_through a b c (one, e) (two, f) = (one ++ two, f ∙ ap (λ l. l ++ two) e ∙ append_assoc a one two)

pub begins_same : {A : Type 0} (a : List A) → BeginsWith a a
begins_same a = ([], sym (append-nil a))

some_of : {T : Type 0} (a b : T) → Some a ≡ Some b → a ≡ b
some_of a b e = cc e

-- ---- one step behind others

module _ (fits enters : List Work → Work → Reply → Type 0) (follows : ℕ → ℕ → Type 0) (seen : ℕ) (h newer : List Work) (number : ℕ) (calls : List (Call Work Reply)) (bytes kept said got rest : List ℕ)
    (Came CameAll : List (Call Work Reply) → Type 0) (through : (last : List (Call Work Reply)) → Came last → CameAll (calls ++ last))
    (taken old new : Option (List ℕ)) (first before now : ℕ) (low : first ≤ before)
    (m0 m1 m2 : Option (List Moment)) (w0 w1 w2 : Option (List ℕ))
    (u : IsUnderWay fits enters follows seen h number calls bytes kept said) (few : number < 1000) (took : Appends taken old said) (drawn : AreDrawn m0 m1 w0 w1 (draws_of calls)) where
  abbrev Exchange : Request → Call Work Reply → List ℕ → Type 0
  Exchange request call text = IsExchange fits enters follows (h ++ newer) number (length h) request call text (length (h ++ newer))

  -- what the session comes to when it ends with this step
  abbrev Outcome : Ended → Type 0
  Outcome end =
      (all : List (Call Work Reply)) × (before_last : List ℕ) × (last : List ℕ) × CameAll all
      × IsSession fits enters follows (h ++ newer) seen all (bytes ++ got) before_last last end (length (h ++ newer))
      × Takes taken new first now before_last last end × IsDrawn m0 m2 w0 w2 (draws_of all) end

  -- the draws with that of one call more
  drawn_call : (call : Call Work Reply) (draw : Draw) → call.work.draw ≡ draw → AreDrawn m1 m2 w1 w2 (draw ∷ [])
      → AreDrawn m0 m2 w0 w2 (draws_of (calls ++ call ∷ []))
  drawn_call call draw is d =
      subst (λ l. AreDrawn m0 m2 w0 w2 l) (sym (draws-append calls (call ∷ []) ∙ ap (λ x. draws_of calls ++ x ∷ []) is))
      (drawn_through m0 m1 m2 w0 w1 w2 (draws_of calls) (draw ∷ []) drawn d)

  drawn_none : (end : Ended) → AreDrawn m1 m2 w1 w2 [] → IsDrawn m0 m2 w0 w2 (draws_of calls) end
  drawn_none end d = record { more = []; drawn = drawn_through m0 m1 m2 w0 w1 w2 (draws_of calls) [] drawn d; at_most_one = inl refl }

  -- without a call
  same_exchanges : h ++ newer ≡ h → Exchanges fits enters follows (h ++ newer) 0 seen u.requests calls said (length (h ++ newer))
  same_exchanges same =
      subst (λ n. Exchanges fits enters follows (h ++ newer) 0 seen u.requests calls said n) (ap length (sym same))
      (exchanges_so_far fits enters follows seen h newer number calls bytes kept said got u)

  whole_of : (end : Ended) → h ++ newer ≡ h → RequestsOf 1000 (bytes ++ got) u.requests end
      → IsWhole fits enters follows (h ++ newer) seen calls (bytes ++ got) said (end_bytes end) end (length (h ++ newer))
  whole_of end same stand = record { requests = u.requests; stand = stand; exchanges = same_exchanges same; last_is = refl }

  no_call : Came [] → CameAll calls
  no_call came = subst CameAll (append-nil calls) (through [] came)

  took_all : (text : List ℕ) → Appends old new text → Appends taken new (said ++ text)
  took_all text sent = appends_through taken old new said text took sent

  took_front : (text : List ℕ) → TakesPart old new before now text → TakesFront taken new first now said text
  took_front text ((n, few, sent), rose) = (n, few, took_all (take n text) sent, rose_earlier first before now low rose)

  took_some : (text : List ℕ) → TakesSome old new before now text → Appends taken new (said ++ text) ⊎ TakesFront taken new first now said text
  took_some text (inl all) = inl (took_all text all)
  took_some text (inr part) = inr (took_front text part)

  took_same : new ≡ old → Appends taken new (said ++ [])
  took_same same = took_all [] (subst (λ t. Appends old t []) (sym same) (appends_none old))

  -- for want of memory, behind the replies so far
  cut_short : (all behind : List (Call Work Reply)) → all ≡ calls ++ behind
      → IsLastCall fits enters follows (h ++ newer) (bytes ++ got) u.requests (length h) behind (length (h ++ newer))
      → IsCutShort fits enters follows (h ++ newer) seen all (bytes ++ got) said (no_memory_bytes true) (length (h ++ newer))
  cut_short all behind is one = record {
    requests = u.requests;
    stand = first_so_far fits enters follows seen h newer number calls bytes kept said got u;
    answered = calls;
    behind = behind;
    calls_are = is;
    middle = length h;
    exchanges = exchanges_so_far fits enters follows seen h newer number calls bytes kept said got u;
    last_call = one;
    last_is = refl;
  }

  closes : IsUncalled Came h (h ++ newer) → TakesSome old new before now (no_memory_bytes true) → IsDrawn m0 m2 w0 w2 (draws_of calls) ended.Memory → Outcome ended.Memory
  closes still some d = (
    calls,
    said,
    no_memory_bytes true,
    no_call still.came,
    cut_short calls [] (sym (append-nil calls)) (ap length still.same),
    took_some (no_memory_bytes true) some,
    d,
  )

  -- a call was made, and the session ends with it
  called : (request : Request) (draw : Draw) (end : Ended) → BeginsWithRequest (kept ++ got) request rest → AreDrawn m1 m2 w1 w2 (draw ∷ [])
      → (c : IsCalled (Exchange request) Came old new before now request.close draw (Some end)) → GoesOn old new before now request.close c.text (Some end) → Outcome end
  called request draw ended.Closed begins d c (close, sent) = (
    calls ++ c.call ∷ [],
    said ++ c.text,
    [],
    through (c.call ∷ []) c.came,
    record {
      requests = u.requests ++ request ∷ [];
      stand = stands_closed fits enters follows seen h newer number calls bytes kept said got u request rest few begins close;
      exchanges = then_one fits enters follows seen h newer number calls bytes kept said got u request c.call c.text (length (h ++ newer)) c.exchange;
      last_is = refl;
    },
    appends_nothing_more taken new (said ++ c.text) (took_all c.text sent),
    drawn_so m0 m2 w0 w2 (draws_of (calls ++ c.call ∷ [])) ended.Closed (drawn_call c.call draw c.drawn d),
  )
  called request draw ended.SinkFault begins d c part = (
    calls ++ c.call ∷ [],
    said,
    c.text,
    through (c.call ∷ []) c.came,
    inl (record {
      requests = u.requests;
      request = request;
      stand = first_with fits enters follows seen h newer number calls bytes kept said got u request rest few begins;
      answered = calls;
      call = c.call;
      calls_are = refl;
      middle = length h;
      exchanges = exchanges_so_far fits enters follows seen h newer number calls bytes kept said got u;
      exchange =
          subst (λ n. IsExchange fits enters follows (h ++ newer) n (length h) request c.call c.text (length (h ++ newer))) (sym u.number_is) c.exchange;
    }),
    took_front c.text part,
    drawn_so m0 m2 w0 w2 (draws_of (calls ++ c.call ∷ [])) ended.SinkFault (drawn_call c.call draw c.drawn d),
  )
  called request draw ended.Memory begins d c some = (
    calls ++ c.call ∷ [],
    said,
    no_memory_bytes true,
    through (c.call ∷ []) c.came,
    cut_short (calls ++ c.call ∷ []) (c.call ∷ []) refl
        (request, first_with fits enters follows seen h newer number calls bytes kept said got u request rest few begins, c.exchange.call_for),
    took_some (no_memory_bytes true) some,
    drawn_so m0 m2 w0 w2 (draws_of (calls ++ c.call ∷ [])) ended.Memory (drawn_call c.call draw c.drawn d),
  )
  called request draw ended.Done begins d c bad = absurd bad
  called request draw (ended.Refused status) begins d c bad = absurd bad
  called request draw ended.Truncated begins d c bad = absurd bad
  called request draw ended.Limit begins d c bad = absurd bad
  called request draw ended.SourceFault begins d c bad = absurd bad

  -- bytes that don't decide are at their end, or stop inside a request
  undecided : (b : List ℕ) → ¬ (IsDecided b) → EndsAs b ended.Done ⊎ EndsAs b ended.Truncated
  undecided [] free = inl refl
  undecided (x ∷ b) free = inr ((λ e. cc e), free)

  failed : h ++ newer ≡ h → EndsAs (kept ++ got) ended.Done ⊎ EndsAs (kept ++ got) ended.Truncated
      → IsSession fits enters follows (h ++ newer) seen calls (bytes ++ got) said [] ended.SourceFault (length (h ++ newer))
  failed same (inl done) = inl (whole_of ended.Done same (stands_ended fits enters follows seen h newer number calls bytes kept said got u ended.Done few done))
  failed same (inr cut) = inr (whole_of ended.Truncated same (stands_ended fits enters follows seen h newer number calls bytes kept said got u ended.Truncated few cut))

  refused_whole : (status : ℕ) → h ++ newer ≡ h → EndsAs (kept ++ got) (ended.Refused status)
      → IsWhole fits enters follows (h ++ newer) seen calls (bytes ++ got) said (refused_bytes status) (ended.Refused status) (length (h ++ newer))
  refused_whole status same ends =
      whole_of (ended.Refused status) same
      (stands_ended fits enters follows seen h newer number calls bytes kept said got u (ended.Refused status) few ends)

  -- the refusal was sent, or the sink or memory failed
  refused : (status : ℕ) (end : Ended) → h ++ newer ≡ h → Came [] → AreDrawn m1 m2 w1 w2 [] → EndsAs (kept ++ got) (ended.Refused status)
      → IsRefusal old new before now status end → Outcome end
  refused status (ended.Refused say) same came d ends (is, sent) =
      subst (λ s. Outcome (ended.Refused s)) (sym is) (
        calls,
        said,
        refused_bytes status,
        no_call came,
        refused_whole status same ends,
        took_all (refused_bytes status) sent,
        drawn_none (ended.Refused status) d,
      )
  refused status ended.SinkFault same came d ends part = (
    calls,
    said,
    refused_bytes status,
    no_call came,
    inr (status, refused_whole status same ends),
    took_front (refused_bytes status) part,
    drawn_none ended.SinkFault d,
  )
  refused status ended.Memory same came d ends some = closes (record { came = came; same = same }) some (drawn_none ended.Memory d)
  refused status ended.Done same came d ends bad = absurd bad
  refused status ended.Closed same came d ends bad = absurd bad
  refused status ended.Truncated same came d ends bad = absurd bad
  refused status ended.Limit same came d ends bad = absurd bad
  refused status ended.SourceFault same came d ends bad = absurd bad

  -- the session ends with this step
  ends : (left : Option (List ℕ)) (n : Result Next WireFault) (end : Ended) → IsRead (kept ++ got) left rest n
      → IsAnswered Exchange Came h (h ++ newer) old new before now m1 m2 w1 w2 n (Some end) → Outcome end
  ends left (Ok (next.Request request)) end begins (draw, d, inl c) = called request draw end begins d c c.goes_on
  ends left (Ok (next.Request request)) end begins (draw, d, inr (still, closed)) =
      subst Outcome (sym (some_of end ended.Memory closed.ended))
      (closes still closed.closing (record { more = draw ∷ []; drawn = drawn_through m0 m1 m2 w0 w1 w2 (draws_of calls) (draw ∷ []) drawn d; at_most_one = inr (refl, refl) }))
  ends left (Ok next.End) end (none, over, same_bytes) (d, still, same, is) =
      subst Outcome (sym (some_of end ended.Done is)) (
        calls,
        said,
        [],
        no_call still.came,
        whole_of ended.Done still.same (stands_ended fits enters follows seen h newer number calls bytes kept said got u ended.Done few none),
        took_same same,
        drawn_none ended.Done d,
      )
  ends left (Ok next.Truncated) end (some, free, over, same_bytes) (d, still, same, is) =
      subst Outcome (sym (some_of end ended.Truncated is)) (
        calls,
        said,
        [],
        no_call still.came,
        whole_of ended.Truncated still.same (stands_ended fits enters follows seen h newer number calls bytes kept said got u ended.Truncated few (some, free)),
        took_same same,
        drawn_none ended.Truncated d,
      )
  ends left (Ok (next.Refused status)) end (bad, same_bytes) (d, still, say) =
      subst Outcome (sym (some_of end say.0 say.1)) (refused status say.0 still.same still.came d bad say.2)
  ends left (Err fault.SourceFault) end (free, same_bytes) (d, still, same, is) =
      subst Outcome (sym (some_of end ended.SourceFault is)) (
        calls,
        said,
        [],
        no_call still.came,
        failed still.same (undecided (kept ++ got) free),
        took_same same,
        drawn_none ended.SourceFault d,
      )
  ends left (Err fault.Memory) end any (d, still, closed) =
      subst Outcome (sym (some_of end ended.Memory closed.ended)) (closes still closed.closing (drawn_none ended.Memory d))

  -- the session goes on
  abbrev Goes : Type 0
  Goes =
      (all : List (Call Work Reply)) × (sent : List ℕ) × CameAll all × IsUnderWay fits enters follows seen (h ++ newer) (number + 1) all (bytes ++ got) rest sent
      × Appends taken new sent × AreDrawn m0 m2 w0 w2 (draws_of all)

  goes : (left : Option (List ℕ)) (n : Result Next WireFault) → IsRead (kept ++ got) left rest n
      → IsAnswered Exchange Came h (h ++ newer) old new before now m1 m2 w1 w2 n None → Goes
  goes left (Ok (next.Request request)) begins (draw, d, inl c) = (
    calls ++ c.call ∷ [],
    said ++ c.text,
    through (c.call ∷ []) c.came,
    goes_on fits enters follows seen h newer number calls bytes kept said got u request c.call c.text rest few begins c.goes_on.0 c.exchange,
    took_all c.text c.goes_on.1,
    drawn_call c.call draw c.drawn d,
  )
  goes left (Ok (next.Request request)) begins (draw, d, inr (still, closed)) = absurd (cc closed.ended)
  goes left (Ok next.End) read (d, still, same, is) = absurd (cc is)
  goes left (Ok next.Truncated) read (d, still, same, is) = absurd (cc is)
  goes left (Ok (next.Refused status)) read (d, still, say) = absurd (cc say.1)
  goes left (Err fault.SourceFault) read (d, still, same, is) = absurd (cc is)
  goes left (Err fault.Memory) read (d, still, closed) = absurd (cc closed.ended)

  -- the same where the history has a name
  abbrev pub AnsweredOver : List Work → Result Next WireFault → Option Ended → Type 0
  AnsweredOver l n end =
      IsAnswered (λ request call text. IsExchange fits enters follows l number (length h) request call text (length l)) Came h l old new before now m1 m2 w1 w2 n end

  abbrev pub OutcomeOver : List Work → Ended → Type 0
  OutcomeOver l end =
      (all : List (Call Work Reply)) × (before_last : List ℕ) × (last : List ℕ) × CameAll all
      × IsSession fits enters follows l seen all (bytes ++ got) before_last last end (length l)
      × Takes taken new first now before_last last end × IsDrawn m0 m2 w0 w2 (draws_of all) end

  abbrev pub GoesOver : List Work → Type 0
  GoesOver l =
      (all : List (Call Work Reply)) × (sent : List ℕ) × CameAll all × IsUnderWay fits enters follows seen l (number + 1) all (bytes ++ got) rest sent
      × Appends taken new sent × AreDrawn m0 m2 w0 w2 (draws_of all)

  pub ends_over : (l : List Work) → l ≡ h ++ newer → (left : Option (List ℕ)) (n : Result Next WireFault) (end : Ended) → IsRead (kept ++ got) left rest n
      → AnsweredOver l n (Some end) → OutcomeOver l end
  ends_over l e left n end read answered = subst (λ k. OutcomeOver k end) (sym e) (ends left n end read (subst (λ k. AnsweredOver k n (Some end)) e answered))

  pub goes_over : (l : List Work) → l ≡ h ++ newer → (left : Option (List ℕ)) (n : Result Next WireFault) → IsRead (kept ++ got) left rest n
      → AnsweredOver l n None → GoesOver l
  goes_over l e left n read answered = subst GoesOver (sym e) (goes left n read (subst (λ k. AnsweredOver k n None) e answered))

-- ---- the end after as many requests as there may be

pub full : (fits enters : List Work → Work → Reply → Type 0) (follows : ℕ → ℕ → Type 0) (seen : ℕ) (h : List Work) (number : ℕ) (calls : List (Call Work Reply)) (bytes kept said : List ℕ)
    → IsUnderWay fits enters follows seen h number calls bytes kept said → 1000 ≤ number
    → IsSession fits enters follows h seen calls bytes said [] ended.Limit (length h)
full fits enters follows seen h number calls bytes kept said u over = record {
  requests = u.requests;
  stand = stands_full fits enters follows seen h [] number calls bytes kept said [] u (omega (arith, u.count, over));
  exchanges = u.exchanges;
  last_is = refl;
}
