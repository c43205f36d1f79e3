-- A session between two requests.
use Rattle.std.proofs.Common.{◌≡◌, ℕ, ◌+◌, ◌<◌, suc, zero, Bool, true, false, List, [], ◌∷◌, ◌++◌, length, refl, sym, ◌∙◌, ap, subst, arith, append_assoc, append-nil, length-append}
use Rattle.std.specs.Prelude.{MatchBool}
use Rattle.pocket_wire.specs.Requests.{AreFirst, BeginsWithRequest, EndsAs, RequestsOf}
use Rattle.pocket_wire.specs.declared.request.Ended.{Ended}
use Rattle.pocket_wire.specs.declared.request.Ended.TheVariants.{Closed, Limit}
use Rattle.pocket_wire.specs.declared.request.Request.{Request}
use Rattle.pocket_api.specs.declared.reply.Reply.{Reply}
use Rattle.pocket_api.specs.declared.work.Work.{Work}
use Rattle.pocket_desk.specs.declared.view.Call.{Call}
use Rattle.pocket_serve.specs.Sessions.{Exchanges, IsExchange}
use Rattle.pocket_serve.proofs.Extension.{exchanges_extend}

-- ---- bytes behind a request

begins_extends : (bytes more rest : List ℕ) (request : Request) → BeginsWithRequest bytes request rest → BeginsWithRequest (bytes ++ more) request (rest ++ more)
begins_extends bytes more rest request (front, e, is) = (front, ap (λ b. b ++ more) e ∙ append_assoc front rest more, is)

-- a request that doesn't ask for the close, and then these
one_more : (n : ℕ) (bytes rest : List ℕ) (request : Request) (tail : List Request) (end : Ended) → BeginsWithRequest bytes request rest
    → request.close ≡ false → RequestsOf n rest tail end → RequestsOf (suc n) bytes (request ∷ tail) end
one_more n bytes rest request tail end begins stays stand =
    (rest, begins, subst (λ b. MatchBool b ((tail ≡ []) × (end ≡ Closed)) (RequestsOf n rest tail end)) (sym stays) stand)

one_last : (n : ℕ) (bytes rest : List ℕ) (request : Request) → BeginsWithRequest bytes request rest → request.close ≡ true
    → RequestsOf (suc n) bytes (request ∷ []) Closed
one_last n bytes rest request begins close =
    (rest, begins, subst (λ b. MatchBool b ((◌≡◌ {A = List Request} [] []) × (Closed ≡ Closed)) (RequestsOf n rest [] Closed)) (sym close) (refl, refl))

first_more : (n : ℕ) (bytes rest : List ℕ) (request : Request) (tail : List Request) → BeginsWithRequest bytes request rest
    → request.close ≡ false → AreFirst n rest tail → AreFirst (suc n) bytes (request ∷ tail)
first_more n bytes rest request tail begins stays stand =
    (rest, begins, subst (λ b. MatchBool b (tail ≡ []) (AreFirst n rest tail)) (sym stays) stand)

either_way : (b : Bool) (n : ℕ) (rest : List ℕ) → MatchBool b (◌≡◌ {A = List Request} [] []) (AreFirst n rest [])
either_way true n rest = refl
either_way false n rest = tt

first_one : (n : ℕ) (bytes rest : List ℕ) (request : Request) → BeginsWithRequest bytes request rest → AreFirst (suc n) bytes (request ∷ [])
first_one n bytes rest request begins = (rest, begins, either_way request.close n rest)

-- ---- the session so far

module _ (fits enters : List Work → Work → Reply → Type 0) (follows : ℕ → ℕ → Type 0) where
  -- so many requests were answered by these calls, with what was said; these bytes were read, the last of which are kept. What may
  -- still come makes the requests of the whole
  pub record IsUnderWay (seen : ℕ) (history : List Work) (number : ℕ) (calls : List (Call Work Reply)) (bytes kept said : List ℕ) : Type 0 where
    pub requests : List Request
    pub room : ℕ
    pub count : number + room ≡ 1000
    pub number_is : length requests ≡ number
    pub stand : (more : List ℕ) (tail : List Request) (end : Ended) → RequestsOf room (kept ++ more) tail end
        → RequestsOf 1000 (bytes ++ more) (requests ++ tail) end
    pub first : (more : List ℕ) (tail : List Request) → AreFirst room (kept ++ more) tail → AreFirst 1000 (bytes ++ more) (requests ++ tail)
    pub exchanges : Exchanges fits enters follows history 0 seen requests calls said (length history)

  pub starts : (history : List Work) (kept : List ℕ) → kept ≡ [] → IsUnderWay (length history) history 0 [] [] kept []
  starts history kept none = record {
    requests = [];
    room = 1000;
    count = refl;
    number_is = refl;
    stand = λ more tail end s. subst (λ k. RequestsOf 1000 (k ++ more) tail end) none s;
    first = λ more tail s. subst (λ k. AreFirst 1000 (k ++ more) tail) none s;
    exchanges = (refl, refl);
  }

  -- one exchange behind others
  exchanges_add : (history : List Work) (number seen : ℕ) (requests : List Request) (calls : List (Call Work Reply)) (said : List ℕ) (middle k : ℕ)
      (request : Request) (call : Call Work Reply) (text : List ℕ) (next : ℕ) → k ≡ number + length requests
      → Exchanges fits enters follows history number seen requests calls said middle → IsExchange fits enters follows history k middle request call text next
      → Exchanges fits enters follows history number seen (requests ++ request ∷ []) (calls ++ call ∷ []) (said ++ text) next
  exchanges_add history number seen [] [] said middle k request call text next place (none, start) is =
      let same : k ≡ number = omega (arith, place) in (
        next,
        text,
        [],
        subst (λ n. IsExchange fits enters follows history n seen request call text next) same
            (subst (λ s. IsExchange fits enters follows history k s request call text next) start is),
        ap (λ o. o ++ text) none ∙ sym (append-nil text),
        (refl, refl),
      )
  exchanges_add history number seen [] (other ∷ calls) said middle k request call text next place x is = absurd x
  exchanges_add history number seen (other ∷ requests) [] said middle k request call text next place x is = absurd x
  exchanges_add history number seen (other ∷ requests) (its ∷ calls) said middle k request call text next place (between, first, rest, one, sent, x) is = (
    between,
    first,
    rest ++ text,
    one,
    ap (λ o. o ++ text) sent ∙ append_assoc first rest text,
    exchanges_add history (number + 1) between requests calls rest middle k request call text next (omega (arith, place)) x is,
  )

  module _ (seen : ℕ) (history newer : List Work) (number : ℕ) (calls : List (Call Work Reply)) (bytes kept said got : List ℕ)
      (u : IsUnderWay seen history number calls bytes kept said) where
    -- the exchanges so far, over the history as it is now
    pub exchanges_so_far : Exchanges fits enters follows (history ++ newer) 0 seen u.requests calls said (length history)
    exchanges_so_far =
        exchanges_extend fits fits enters follows follows (λ l work reply f. f) (λ seen at f. f) history newer 0 seen u.requests calls said (length history) u.exchanges

    -- and one more
    pub then_one : (request : Request) (call : Call Work Reply) (text : List ℕ) (next : ℕ)
        → IsExchange fits enters follows (history ++ newer) number (length history) request call text next
        → Exchanges fits enters follows (history ++ newer) 0 seen (u.requests ++ request ∷ []) (calls ++ call ∷ []) (said ++ text) next
    then_one request call text next is =
        exchanges_add (history ++ newer) 0 seen u.requests calls said (length history) number request call text next (omega (arith, u.number_is)) exchanges_so_far is

    -- a request was answered, and doesn't ask for the close
    pub goes_on : (request : Request) (call : Call Work Reply) (text rest : List ℕ) → number < 1000 → BeginsWithRequest (kept ++ got) request rest → request.close ≡ false
        → IsExchange fits enters follows (history ++ newer) number (length history) request call text (length (history ++ newer))
        → IsUnderWay seen (history ++ newer) (number + 1) (calls ++ call ∷ []) (bytes ++ got) rest (said ++ text)
    goes_on request call text rest few begins stays is = by u.room refl
      where
        by : (r : ℕ) → u.room ≡ r → IsUnderWay seen (history ++ newer) (number + 1) (calls ++ call ∷ []) (bytes ++ got) rest (said ++ text)
        by zero e = absurd (omega (arith, u.count, e, few))
        by (suc n) e = record {
          requests = u.requests ++ request ∷ [];
          room = n;
          count = omega (arith, u.count, e);
          number_is = omega (arith, length-append u.requests (request ∷ []), u.number_is);
          stand =
              λ more tail end s.
              let there = one_more n ((kept ++ got) ++ more) (rest ++ more) request tail end (begins_extends (kept ++ got) more rest request begins) stays s in
              let moved = subst (λ b. RequestsOf (suc n) b (request ∷ tail) end) (append_assoc kept got more) there in
              let whole = u.stand (got ++ more) (request ∷ tail) end (subst (λ r. RequestsOf r (kept ++ (got ++ more)) (request ∷ tail) end) (sym e) moved) in
              subst (λ l. RequestsOf 1000 ((bytes ++ got) ++ more) l end) (sym (append_assoc u.requests (request ∷ []) tail))
              (subst (λ b. RequestsOf 1000 b (u.requests ++ request ∷ tail) end) (sym (append_assoc bytes got more)) whole);
          first =
              λ more tail s.
              let there = first_more n ((kept ++ got) ++ more) (rest ++ more) request tail (begins_extends (kept ++ got) more rest request begins) stays s in
              let moved = subst (λ b. AreFirst (suc n) b (request ∷ tail)) (append_assoc kept got more) there in
              let whole = u.first (got ++ more) (request ∷ tail) (subst (λ r. AreFirst r (kept ++ (got ++ more)) (request ∷ tail)) (sym e) moved) in
              subst (λ l. AreFirst 1000 ((bytes ++ got) ++ more) l) (sym (append_assoc u.requests (request ∷ []) tail))
              (subst (λ b. AreFirst 1000 b (u.requests ++ request ∷ tail)) (sym (append_assoc bytes got more)) whole);
          exchanges = then_one request call text (length (history ++ newer)) is;
        }

    -- the last request asks for the close
    pub stands_closed : (request : Request) (rest : List ℕ) → number < 1000 → BeginsWithRequest (kept ++ got) request rest → request.close ≡ true
        → RequestsOf 1000 (bytes ++ got) (u.requests ++ request ∷ []) Closed
    stands_closed request rest few begins close = by u.room refl
      where
        by : (r : ℕ) → u.room ≡ r → RequestsOf 1000 (bytes ++ got) (u.requests ++ request ∷ []) Closed
        by zero e = absurd (omega (arith, u.count, e, few))
        by (suc n) e =
            u.stand got (request ∷ []) Closed
            (subst (λ r. RequestsOf r (kept ++ got) (request ∷ []) Closed) (sym e) (one_last n (kept ++ got) rest request begins close))

    -- the first requests and one more
    pub first_with : (request : Request) (rest : List ℕ) → number < 1000 → BeginsWithRequest (kept ++ got) request rest
        → AreFirst 1000 (bytes ++ got) (u.requests ++ request ∷ [])
    first_with request rest few begins = by u.room refl
      where
        by : (r : ℕ) → u.room ≡ r → AreFirst 1000 (bytes ++ got) (u.requests ++ request ∷ [])
        by zero e = absurd (omega (arith, u.count, e, few))
        by (suc n) e =
            u.first got (request ∷ []) (subst (λ r. AreFirst r (kept ++ got) (request ∷ [])) (sym e) (first_one n (kept ++ got) rest request begins))

    -- the first requests alone
    pub first_so_far : AreFirst 1000 (bytes ++ got) u.requests
    first_so_far = subst (λ l. AreFirst 1000 (bytes ++ got) l) (append-nil u.requests) (u.first got [] (none u.room))
      where
        none : (r : ℕ) → AreFirst r (kept ++ got) []
        none zero = tt
        none (suc n) = tt

    -- the bytes end without a further request
    pub stands_ended : (end : Ended) → number < 1000 → EndsAs (kept ++ got) end → RequestsOf 1000 (bytes ++ got) u.requests end
    stands_ended end few ends = by u.room refl
      where
        by : (r : ℕ) → u.room ≡ r → RequestsOf 1000 (bytes ++ got) u.requests end
        by zero e = absurd (omega (arith, u.count, e, few))
        by (suc n) e =
            subst (λ l. RequestsOf 1000 (bytes ++ got) l end) (append-nil u.requests)
            (u.stand got [] end (subst (λ r. RequestsOf r (kept ++ got) [] end) (sym e) ends))

    -- there is no room for more
    pub stands_full : number ≡ 1000 → RequestsOf 1000 bytes u.requests Limit
    stands_full full =
        let none : u.room ≡ 0 = omega (arith, u.count, full) in
        subst (λ b. RequestsOf 1000 b u.requests Limit) (append-nil bytes)
        (subst (λ l. RequestsOf 1000 (bytes ++ []) l Limit) (append-nil u.requests)
        (u.stand [] [] Limit (subst (λ r. RequestsOf r (kept ++ []) [] Limit) (sym none) (refl, refl))))
