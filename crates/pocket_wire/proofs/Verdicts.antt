-- What a refusal rests on, and what it is.
use Rattle.std.proofs.Common.{◌≡◌, ◌≤◌, ℕ, List, Bool, true, false, Option, Some, None, Result, Ok, Err, refl, subst, arith, ltb-false}
use Rattle.std.specs.Prelude.{codes, nat_eq, nat_lt}
use Rattle.std.specs.List.{list_any, starts_with}
use Rattle.pocket_types.specs.declared.requests.Method.{Method}
use Rattle.pocket_wire.specs.Heads.{body_length, is_field, method_of, refusal, refusal_by}
use Rattle.pocket_wire.specs.Phrases.{IsReplyStatus}
use Rattle.pocket_wire.specs.Steps.{IsVerdict, IsVerdictBy}

-- a verdict by what it rests on is that of the head
pub verdict_is : (name target : List ℕ) (fields : List (List ℕ × List ℕ)) (is_path is_coded : Bool) (known : Option Method) (r : Result (Method × ℕ) ℕ)
    → is_path ≡ starts_with nat_eq target (codes "/") → is_coded ≡ list_any (is_field (codes "transfer-encoding")) fields → known ≡ method_of name
    → IsVerdictBy is_path (body_length fields) is_coded known r → IsVerdict name target fields r
unfolding refusal
verdict_is name target fields is_path is_coded known r e f g h =
    by r
    (subst (λ k. IsVerdictBy (starts_with nat_eq target (codes "/")) (body_length fields) (list_any (is_field (codes "transfer-encoding")) fields) k r) g
    (subst (λ b. IsVerdictBy (starts_with nat_eq target (codes "/")) (body_length fields) b known r) f
    (subst (λ b. IsVerdictBy b (body_length fields) is_coded known r) e h)))
  where
    by : (r : Result (Method × ℕ) ℕ) → IsVerdictBy (starts_with nat_eq target (codes "/")) (body_length fields) (list_any (is_field (codes "transfer-encoding")) fields) (method_of name) r
        → IsVerdict name target fields r
    by (Ok (method, n)) h = h
    by (Err status) h = h

-- ---- what a refusal may be

abbrev IsGood : Option ℕ → Option ℕ → Type 0
IsGood length (Some status) = IsReplyStatus status
IsGood length None = (n : ℕ) → length ≡ Some n → n ≤ 1048576

-- the status of a refusal is one of replies, and the body of what isn't refused is within its limit
pub good_refusal : (is_path : Bool) (length : Option ℕ) (is_coded : Bool) (known : Option Method) → IsGood length (refusal_by is_path length is_coded known)
good_refusal false length is_coded known = refl
good_refusal true None is_coded known = refl
good_refusal true (Some n) true known = refl
good_refusal true (Some n) false None = refl
good_refusal true (Some n) false (Some method) = by (nat_lt 1048576 n) refl
  where
    by : (b : Bool) → nat_lt 1048576 n ≡ b → IsGood (Some n) (refusal_by true (Some n) false (Some method))
    by true e = rw e refl
    by false e = rw e (λ m is. let same : n ≡ m = cc is in let low = ltb-false 1048576 n e in omega (arith, same, low))

-- the body of a head that isn't refused is within its limit
pub small_body : (name target : List ℕ) (fields : List (List ℕ × List ℕ)) (n : ℕ) → refusal name target fields ≡ None → body_length fields ≡ Some n → n ≤ 1048576
unfolding refusal
small_body name target fields n good e =
    let all = good_refusal (starts_with nat_eq target (codes "/")) (body_length fields) (list_any (is_field (codes "transfer-encoding")) fields) (method_of name) in
    subst (IsGood (body_length fields)) good all n e

-- a refused head has a status that replies have
pub good_status : (name target : List ℕ) (fields : List (List ℕ × List ℕ)) (status : ℕ) → refusal name target fields ≡ Some status → IsReplyStatus status
unfolding refusal
good_status name target fields status refused =
    let all = good_refusal (starts_with nat_eq target (codes "/")) (body_length fields) (list_any (is_field (codes "transfer-encoding")) fields) (method_of name) in
    subst (IsGood (body_length fields)) refused all
