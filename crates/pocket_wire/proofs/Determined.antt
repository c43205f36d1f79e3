-- The requests that stand in bytes are determined by the bytes.
use Rattle.std.proofs.Common.{◌≡◌, inl, inr, ℕ, zero, suc, List, [], ◌∷◌, ◌++◌, append_assoc, refl, ap, sym, ◌∙◌, subst, Bool, true, false, MatchBool}
use Rattle.pocket_wire.specs.declared.request.Request.{Request}
use Rattle.pocket_wire.specs.declared.request.Ended.{Ended}
use Rattle.pocket_wire.specs.declared.request.Ended.TheVariants.{Done, Closed, Refused, Truncated}
use Rattle.pocket_wire.specs.Requests.{AreDetermined, StayDecided, BeginsWithRequest, EndsAs, IsRefused, RequestsOf}
use Rattle.pocket_wire.proofs.Decisions.{one_request, one_status, refused_some, request_not_refused, request_some}

-- bytes that begin with no request end in one way
one_end : (bytes : List ℕ) (a b : Ended) → EndsAs bytes a → EndsAs bytes b → a ≡ b
one_end bytes Done Done x y = refl
one_end bytes Done Truncated x y = absurd (y.0 x)
one_end bytes Done (Refused t) x y = absurd (refused_some bytes t y x)
one_end bytes Truncated Done x y = absurd (x.0 y)
one_end bytes Truncated Truncated x y = refl
one_end bytes Truncated (Refused t) x y = absurd (x.1 (inr (t, y)))
one_end bytes (Refused s) Done x y = absurd (refused_some bytes s x y)
one_end bytes (Refused s) Truncated x y = absurd (y.1 (inr (s, x)))
one_end bytes (Refused s) (Refused t) x y = ap Refused (one_status bytes s t x y)
one_end bytes Done _ x y = absurd y
one_end bytes Truncated _ x y = absurd y
one_end bytes (Refused s) _ x y = absurd y
one_end bytes _ b x y = absurd x

-- bytes that begin with a request don't end so
no_end : (bytes : List ℕ) (request : Request) (rest : List ℕ) (a : Ended) → BeginsWithRequest bytes request rest → EndsAs bytes a → ⊥
no_end bytes request rest Done begins x = request_some bytes request rest begins x
no_end bytes request rest Truncated begins x = x.1 (inl (request, rest, begins))
no_end bytes request rest (Refused s) begins x = request_not_refused bytes request rest s begins x
no_end bytes request rest _ begins x = x

-- the list behind a request, by whether it asks for the close
behind : (b : Bool) (n : ℕ) (rest : List ℕ) (one other : List Request) (ended end : Ended)
    → (RequestsOf n rest one ended → RequestsOf n rest other end → (one ≡ other) × (ended ≡ end))
    → MatchBool b ((one ≡ []) × (ended ≡ Closed)) (RequestsOf n rest one ended)
    → MatchBool b ((other ≡ []) × (end ≡ Closed)) (RequestsOf n rest other end) → (one ≡ other) × (ended ≡ end)
behind true n rest one other ended end rec x y = (x.0 ∙ sym y.0, x.1 ∙ sym y.1)
behind false n rest one other ended end rec x y = rec x y

pub determined : AreDetermined
determined zero bytes one other ended end x y = (x.0 ∙ sym y.0, x.1 ∙ sym y.1)
determined (suc n) bytes [] [] ended end x y = (refl, one_end bytes ended end x y)
determined (suc n) bytes [] (s ∷ other) ended end x (rest, begins, more) = absurd (no_end bytes s rest ended begins x)
determined (suc n) bytes (r ∷ one) [] ended end (rest, begins, more) y = absurd (no_end bytes r rest end begins y)
determined (suc n) bytes (r ∷ one) (s ∷ other) ended end (left, begins, more) (rest, starts, most) =
    let same = one_request bytes r s left rest begins starts in
    let close : MatchBool r.close ((other ≡ []) × (end ≡ Closed)) (RequestsOf n rest other end) =
    subst (λ (q : Request). MatchBool q.close ((other ≡ []) × (end ≡ Closed)) (RequestsOf n rest other end)) (sym same.0) most
    in
    let there : MatchBool r.close ((other ≡ []) × (end ≡ Closed)) (RequestsOf n left other end) =
    subst (λ z. MatchBool r.close ((other ≡ []) × (end ≡ Closed)) (RequestsOf n z other end)) (sym same.1) close
    in
    let both = behind r.close n left one other ended end (determined n left one other ended end) more there in
    (cc (same.0, both.0), both.1)

-- what is decided stays
pub stays : StayDecided
stays bytes more = (begins, refused)
  where
    behind_more : (front rest : List ℕ) → bytes ≡ front ++ rest → bytes ++ more ≡ front ++ (rest ++ more)
    behind_more front rest e = ap (λ s. s ++ more) e ∙ append_assoc front rest more

    begins : (request : Request) (rest : List ℕ) → BeginsWithRequest bytes request rest → BeginsWithRequest (bytes ++ more) request (rest ++ more)
    begins request rest (front, e, is) = (front, behind_more front rest e, is)

    refused : (status : ℕ) → IsRefused bytes status → IsRefused (bytes ++ more) status
    refused status (inl (e, long)) = inl (
      e,
      record {
        front = long.front;
        rest = long.rest ++ more;
        bytes_are = behind_more long.front long.rest long.bytes_are;
        part = long.part;
        passes = long.passes;
      },
    )
    refused status (inr bad) = inr (record {
      block = bad.block;
      rest = bad.rest ++ more;
      bytes_are = behind_more bad.block bad.rest bad.bytes_are;
      is_block = bad.is_block;
      refused = bad.refused;
    })
