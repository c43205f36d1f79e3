-- What bytes decide, whatever follows them, and that they decide it in one way.
use Rattle.std.proofs.Common.{◌≡◌, ◌≢◌, ◌⊎◌, inl, inr, ℕ, ◌+◌, ◌≤◌, ◌<◌, List, [], ◌∷◌, ◌++◌, length, take, drop, refl, ap, sym, ◌∙◌, subst, arith, true, false, None, Some, append_assoc, length-append}
use Rattle.std.proofs.lemmas.Bool.{cases_lt}
use Rattle.std.proofs.lemmas.List.{take_at, take-append-le, take-append-drop, append_cancel_left, append-nil}
use Rattle.httparse.specs.Grammar.{RequestHead}
use Rattle.httparse.proofs.GrammarLemmas.{request_unique}
use Rattle.pocket_wire.specs.declared.request.Request.{Request}
use Rattle.pocket_wire.specs.Blocks.{after_empty_line, is_ended, line_feeds, IsBlock, IsPartOfBlock, IsTooLong, IsUnfinished}
use Rattle.pocket_wire.specs.Heads.{AreRefused, AsksFor, IsHead, asks_close, fields_of, refusal}
use Rattle.pocket_wire.specs.Requests.{BeginsWithRequest, IsDecided, IsRefused}
use Rattle.pocket_wire.proofs.Blocks.{feeds_grow, few_in_two, nothing_goes}

-- a shorter front of bytes is a front of a longer one
fronts : (bytes a b r s : List ℕ) → bytes ≡ a ++ r → bytes ≡ b ++ s → length a ≤ length b → take (length a) b ≡ a
fronts bytes a b r s e f low =
    sym (take-append-le (length a) b s low) ∙ ap (take (length a)) (sym f ∙ e) ∙ take_at a r (length a) refl

-- fronts of one length are one
same_front : (bytes a b r s : List ℕ) → bytes ≡ a ++ r → bytes ≡ b ++ s → length a ≡ length b → a ≡ b
same_front bytes a b r s e f n =
    sym (take_at a r (length a) refl) ∙ ap (take (length a)) (sym e ∙ f) ∙ take_at b s (length a) (sym n)

-- no part of a block goes on behind an end
not_behind : (bytes a b r s : List ℕ) → bytes ≡ a ++ r → bytes ≡ b ++ s → is_ended a ≡ true → IsPartOfBlock b → length a < length b → ⊥
not_behind bytes a b r s e f ended part less =
    let same = fronts bytes a b r s e f (omega (arith, less)) in
    let none : is_ended (take (length a) b) ≡ false = part (length a) less in
    cc (ap is_ended same, none, ended)

-- bytes begin with one block at most
pub one_block : (bytes a b r s : List ℕ) → bytes ≡ a ++ r → bytes ≡ b ++ s → IsBlock a → IsBlock b → a ≡ b
one_block bytes a b r s e f x y = by (cases_lt (length a) (length b)) (cases_lt (length b) (length a))
  where
    by : ((length a < length b) ⊎ (length b ≤ length a)) → ((length b < length a) ⊎ (length a ≤ length b)) → a ≡ b
    by (inl less) v = absurd (not_behind bytes a b r s e f x.ended y.part less)
    by (inr u) (inl less) = absurd (not_behind bytes b a s r f e y.ended x.part less)
    by (inr u) (inr v) = same_front bytes a b r s e f (omega (arith, u, v))

-- a block isn't too long
pub not_too_long : (bytes block rest : List ℕ) → bytes ≡ block ++ rest → IsBlock block → IsTooLong bytes → ⊥
not_too_long bytes block rest e is long = by long.passes (cases_lt (length block) (length long.front))
  where
    by : ((66 < line_feeds long.front) ⊎ ((length long.front ≡ 16384) × (is_ended long.front ≡ false)))
        → ((length block < length long.front) ⊎ (length long.front ≤ length block)) → ⊥
    by u (inl less) = not_behind bytes block long.front rest long.rest e long.bytes_are is.ended long.part less
    by (inl many) (inr low) =
        let same = fronts bytes long.front block long.rest rest long.bytes_are e low in
        let grow = feeds_grow (take (length long.front) block) (drop (length long.front) block) in
        let whole = take-append-drop (length long.front) block in
        let most : line_feeds long.front ≤ line_feeds block =
        subst (λ s. line_feeds s ≤ line_feeds block) same (subst (λ s. line_feeds (take (length long.front) block) ≤ line_feeds s) whole grow)
        in
        omega (arith, many, most, is.feeds)
    by (inr (size, going)) (inr low) =
        let same = same_front bytes block long.front rest long.rest e long.bytes_are (omega (arith, size, low, is.few)) in
        cc (ap is_ended same, going, is.ended)

-- no block stands where one may go on
no_block : (bytes block rest : List ℕ) → bytes ≡ block ++ rest → IsUnfinished bytes → IsBlock block → ⊥
no_block bytes block rest e going is = by (cases_lt (length block) (length bytes))
  where
    all : bytes ≡ bytes ++ []
    all = sym (append-nil bytes)

    size : length bytes ≡ length block + length rest
    size = ap length e ∙ length-append block rest

    by : ((length block < length bytes) ⊎ (length bytes ≤ length block)) → ⊥
    by (inl less) = not_behind bytes block bytes rest [] e all is.ended going.part less
    by (inr low) =
        let same = same_front bytes block bytes rest [] e all (omega (arith, size, low)) in
        cc (ap is_ended same, going.going, is.ended)

-- the block of a request
pub request_block : (bytes rest : List ℕ) (request : Request) (b : BeginsWithRequest bytes request rest) → bytes ≡ b.2.block ++ (request.body ++ rest)
request_block bytes rest request (front, e, is) = e ∙ ap (λ f. f ++ rest) is.bytes_are ∙ append_assoc is.block request.body rest

-- where a block may go on nothing is decided
pub unfinished : (bytes : List ℕ) → IsUnfinished bytes → ¬ (IsDecided bytes)
unfinished bytes going (inl (request, rest, begins)) =
    no_block bytes begins.2.block (request.body ++ rest) (request_block bytes rest request begins) going begins.2.is_block
unfinished bytes going (inr (status, inr bad)) = no_block bytes bad.block bad.rest bad.bytes_are going bad.is_block
unfinished bytes going (inr (status, inl (is, long))) = by long.passes
  where
    by : ((66 < line_feeds long.front) ⊎ ((length long.front ≡ 16384) × (is_ended long.front ≡ false))) → ⊥
    by (inl many) =
        let grow = feeds_grow long.front long.rest in
        let most : line_feeds long.front ≤ line_feeds bytes = subst (λ s. line_feeds long.front ≤ line_feeds s) (sym long.bytes_are) grow in
        omega (arith, most, many, going.feeds)
    by (inr (size, none)) =
        let all : length bytes ≡ length long.front + length long.rest = ap length long.bytes_are ∙ length-append long.front long.rest in
        omega (arith, all, size, going.few)

-- ---- heads

-- lines are one head at most
pub one_head : (lines : List ℕ) (h k : RequestHead) → IsHead lines h → IsHead lines k → h ≡ k
one_head lines h k x y = (request_unique lines h k [] [] x y).0

-- a head that asks for a request isn't refused
pub not_refused : (lines : List ℕ) (h : RequestHead) (status : ℕ) → IsHead lines h → refusal h.method h.target (fields_of h) ≡ None → AreRefused lines status → ⊥
not_refused lines h status is good (inl (k, other, refused)) =
    let same : h ≡ k = one_head lines h k is other in
    let bad : refusal h.method h.target (fields_of h) ≡ Some status = subst (λ (g : RequestHead). refusal g.method g.target (fields_of g) ≡ Some status) (sym same) refused in
    cc (good, bad)
not_refused lines h status is good (inr (e, none)) = none h is

-- a refusal has one status
one_refusal : (lines : List ℕ) (s t : ℕ) → AreRefused lines s → AreRefused lines t → s ≡ t
one_refusal lines s t (inl (h, x, e)) (inl (k, y, f)) =
    let same : h ≡ k = one_head lines h k x y in
    let other : refusal h.method h.target (fields_of h) ≡ Some t = subst (λ (g : RequestHead). refusal g.method g.target (fields_of g) ≡ Some t) (sym same) f in
    cc (e, other)
one_refusal lines s t (inl (h, x, e)) (inr (f, none)) = absurd (none h x)
one_refusal lines s t (inr (e, none)) (inl (h, x, f)) = absurd (none h x)
one_refusal lines s t (inr (e, none)) (inr (f, again)) = e ∙ sym f

-- a head asks for one request with a body and a size
one_asked : (h : RequestHead) (r s : Request) → AsksFor h r → AsksFor h s → r.body ≡ s.body → r.cost ≡ s.cost → r ≡ s
one_asked h r s x y body cost =
    let method : r.method ≡ s.method = cc (x.method, y.method) in
    let target = x.target ∙ sym y.target in
    let headers = x.headers ∙ sym y.headers in
    let close = x.close ∙ ap (asks_close h.minor) headers ∙ sym y.close in
    λ i. record { method = method i; target = target i; headers = headers i; body = body i; close = close i; cost = cost i }

-- a body and what follows it, where its length is known
one_body : (a b x y : List ℕ) → a ++ x ≡ b ++ y → length a ≡ length b → (a ≡ b) × (x ≡ y)
one_body a b x y e n =
    let body : a ≡ b = same_front (a ++ x) a b x y refl e n in
    let rest : a ++ x ≡ a ++ y = e ∙ ap (λ s. s ++ y) (sym body) in
    (body, append_cancel_left a x y rest)

-- bytes begin with one request at most, and have one rest behind it
pub one_request : (bytes : List ℕ) (r s : Request) (x y : List ℕ) → BeginsWithRequest bytes r x → BeginsWithRequest bytes s y → (r ≡ s) × (x ≡ y)
one_request bytes r s x y b c =
    let p = b.2 in
    let q = c.2 in
    let at = request_block bytes x r b in
    let too = request_block bytes y s c in
    let block : p.block ≡ q.block = one_block bytes p.block q.block (r.body ++ x) (s.body ++ y) at too p.is_block q.is_block in
    let again : IsHead (after_empty_line p.block) q.h = subst (λ z. IsHead (after_empty_line z) q.h) (sym block) q.is_head in
    let head : p.h ≡ q.h = one_head (after_empty_line p.block) p.h q.h p.is_head again in
    let asks : AsksFor p.h s = subst (λ g. AsksFor g s) (sym head) q.asks in
    let size : length r.body ≡ length s.body = cc (p.asks.length, asks.length) in
    let behind : p.block ++ (r.body ++ x) ≡ p.block ++ (s.body ++ y) = sym at ∙ too ∙ ap (λ z. z ++ (s.body ++ y)) (sym block) in
    let both = one_body r.body s.body x y (append_cancel_left p.block (r.body ++ x) (s.body ++ y) behind) size in
    let front : b.0 ≡ c.0 = p.bytes_are ∙ cc (block, both.0) ∙ sym q.bytes_are in
    let cost : r.cost ≡ s.cost = p.cost ∙ ap length front ∙ sym q.cost in
    (one_asked p.h r s p.asks asks both.0 cost, both.1)

-- what begins with a request isn't refused
pub request_not_refused : (bytes : List ℕ) (r : Request) (x : List ℕ) (status : ℕ) → BeginsWithRequest bytes r x → IsRefused bytes status → ⊥
request_not_refused bytes r x status b (inl (is, long)) = not_too_long bytes b.2.block (r.body ++ x) (request_block bytes x r b) b.2.is_block long
request_not_refused bytes r x status b (inr bad) =
    let p = b.2 in
    let block : bad.block ≡ p.block = one_block bytes bad.block p.block bad.rest (r.body ++ x) bad.bytes_are (request_block bytes x r b) bad.is_block p.is_block in
    let refused : AreRefused (after_empty_line p.block) status = subst (λ z. AreRefused (after_empty_line z) status) block bad.refused in
    not_refused (after_empty_line p.block) p.h status p.is_head p.asks.good refused

-- what is refused has one status
pub one_status : (bytes : List ℕ) (s t : ℕ) → IsRefused bytes s → IsRefused bytes t → s ≡ t
one_status bytes s t (inl (e, long)) (inl (f, again)) = e ∙ sym f
one_status bytes s t (inl (e, long)) (inr bad) = absurd (not_too_long bytes bad.block bad.rest bad.bytes_are bad.is_block long)
one_status bytes s t (inr bad) (inl (f, long)) = absurd (not_too_long bytes bad.block bad.rest bad.bytes_are bad.is_block long)
one_status bytes s t (inr bad) (inr worse) =
    let block : worse.block ≡ bad.block = one_block bytes worse.block bad.block worse.rest bad.rest worse.bytes_are bad.bytes_are worse.is_block bad.is_block in
    let refused : AreRefused (after_empty_line bad.block) t = subst (λ z. AreRefused (after_empty_line z) t) block worse.refused in
    one_refusal (after_empty_line bad.block) s t bad.refused refused

-- a block has bytes
pub some_bytes : (bytes block rest : List ℕ) → bytes ≡ block ++ rest → IsBlock block → bytes ≢ []
some_bytes bytes block rest e is none =
    let size : length bytes ≡ length block + length rest = ap length e ∙ length-append block rest in
    let nothing : length bytes ≡ 0 = ap length none in
    let empty : block ≡ [] = take_nothing block (omega (arith, size, nothing)) in
    cc (ap is_ended empty, nothing_goes, is.ended)
  where
    take_nothing : (b : List ℕ) → length b ≡ 0 → b ≡ []
    take_nothing [] n = refl
    take_nothing (x ∷ b) n = absurd (omega (arith, n))

-- a request has bytes
pub request_some : (bytes : List ℕ) (r : Request) (x : List ℕ) → BeginsWithRequest bytes r x → bytes ≢ []
request_some bytes r x b = some_bytes bytes b.2.block (r.body ++ x) (request_block bytes x r b) b.2.is_block

-- what is refused has bytes
pub refused_some : (bytes : List ℕ) (status : ℕ) → IsRefused bytes status → bytes ≢ []
refused_some bytes status (inr bad) none = some_bytes bytes bad.block bad.rest bad.bytes_are bad.is_block none
refused_some bytes status (inl (e, long)) none = by long.passes
  where
    size : length long.front ≡ 0
    size =
        let all : length bytes ≡ length long.front + length long.rest = ap length long.bytes_are ∙ length-append long.front long.rest in
        let nothing : length bytes ≡ 0 = ap length none in
        omega (arith, all, nothing)

    by : ((66 < line_feeds long.front) ⊎ ((length long.front ≡ 16384) × (is_ended long.front ≡ false))) → ⊥
    by (inl many) = let few = few_in_two long.front (omega (arith, size)) in omega (arith, few, many)
    by (inr (full, going)) = omega (arith, size, full)
