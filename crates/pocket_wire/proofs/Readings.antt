-- Reads one after the other, and how they fail.
use Rattle.std.proofs.Common.{◌≡◌, ◌≢◌, ◌<◌, ◌+◌, ℕ, List, [], ◌∷◌, ◌++◌, length, take, refl, ap, sym, ◌∙◌, subst, arith, Bool, false, Option, None, Some, Result, Ok, Err, append_assoc, length-append, IfNone}
use Rattle.std.specs.Prelude.{count_by}
use Rattle.std.specs.Option.{is_some}
use Rattle.std.specs.Result.{IsErrAnd}
use Rattle.std.specs.Io.KnownBytes.{Consumes}
use Rattle.std.proofs.lemmas.List.{append-nil, take-append-le}
use Rattle.pocket_wire.specs.declared.request.Next.{Next}
use Rattle.pocket_wire.specs.declared.request.Next.TheVariants as next
use Rattle.pocket_wire.specs.declared.request.WireFault.{WireFault}
use Rattle.pocket_wire.specs.declared.request.WireFault.TheVariants as fault
use Rattle.pocket_wire.specs.declared.block.Found.{Found}
use Rattle.pocket_wire.specs.declared.block.Search.{Search}
use Rattle.pocket_wire.specs.Blocks.{IsUnfinished, is_line_feed}
use Rattle.pocket_wire.specs.Reading.{IsNext, IsRead}
use Rattle.pocket_wire.specs.Searches.{IsLookedThrough}
use Rattle.pocket_wire.specs.Steps.{IsAdded, IsBlockFound, IsFilled, IsPiece}
use Rattle.pocket_wire.proofs.Decisions.{unfinished}

-- nothing is read
pub consumes_none : (left : Option (List ℕ)) → Consumes left left []
consumes_none None = tt
consumes_none (Some bytes) = refl

pub err_is : {T : Type 0} (r : Result T WireFault) (e : WireFault) → IsErrAnd r (λ x. x ≡ e) → r ≡ Err e
err_is (Ok x) e h = absurd h
err_is (Err x) e h = ap Err h

pub none_there : {T A : Type 0} (o : Option T) → is_some o ≡ false → IfNone o A → A
none_there None e h = h
none_there (Some x) e h = absurd (cc e)

-- bytes behind bytes
pub added : (old now new got more : List ℕ) → now ≡ old ++ got → new ≡ now ++ more → new ≡ old ++ (got ++ more)
added old now new got more e f = f ∙ ap (λ s. s ++ more) e ∙ append_assoc old got more

-- a read that failed before there were so many bytes
pub fill_failed : (size : ℕ) (old now new got more : List ℕ) (left : Option (List ℕ)) (e : WireFault) (r : Result Bool WireFault) → r ≡ Err e → now ≡ old ++ got
    → length now < size → IsPiece now more new left (Err e) → IsAdded old (got ++ more) new r × IsFilled size (old ++ (got ++ more)) left r
fill_failed size old now new got more left fault.Memory r is e few piece = rw is (tt, tt)
fill_failed size old now new got more left fault.SourceFault r is e few (none, same) =
    let all : now ≡ old ++ (got ++ more) = sym (append-nil now) ∙ ap (λ s. now ++ s) (sym none) ∙ added old now (now ++ more) got more e refl in
    let short : length (old ++ (got ++ more)) < size = subst (λ s. length s < size) all few in
    rw is (same ∙ all, short)

-- a read that failed before the block was found
pub block_failed : (old now new got more : List ℕ) (left : Option (List ℕ)) (e : WireFault) (r : Result (Option Found) WireFault) → r ≡ Err e → now ≡ old ++ got
    → IsUnfinished now → IsPiece now more new left (Err e) → IsAdded old (got ++ more) new r × IsBlockFound (old ++ (got ++ more)) left r
block_failed old now new got more left fault.Memory r is e going piece = rw is (tt, tt)
block_failed old now new got more left fault.SourceFault r is e going (none, same) =
    let all : now ≡ old ++ (got ++ more) = sym (append-nil now) ∙ ap (λ s. now ++ s) (sym none) ∙ added old now (now ++ more) got more e refl in
    rw is (same ∙ all, subst IsUnfinished all going)

-- a read that found the end before the block was found
pub block_ended : (old now new got more : List ℕ) (n : ℕ) → now ≡ old ++ got → IsUnfinished now → new ≡ now ++ more → length more ≡ n → n ≡ 0
    → (new ≡ old ++ (got ++ more)) × IsUnfinished (old ++ (got ++ more))
block_ended old now new got [] n e going f size none =
    let all = added old now new got [] e f in
    let same : now ≡ old ++ (got ++ []) = e ∙ ap (λ s. old ++ s) (sym (append-nil got)) in
    (all, subst IsUnfinished same going)
block_ended old now new got (x ∷ more) n e going f size none = absurd (omega (arith, size, none))

-- a read that found the end before there were so many bytes
pub fill_ended : (size : ℕ) (old now new got more : List ℕ) (n : ℕ) → now ≡ old ++ got → length now < size → new ≡ now ++ more → length more ≡ n → n ≡ 0
    → (new ≡ old ++ (got ++ more)) × (length (old ++ (got ++ more)) < size)
fill_ended size old now new got [] n e few f long none =
    let same : now ≡ old ++ (got ++ []) = e ∙ ap (λ s. old ++ s) (sym (append-nil got)) in
    (added old now new got [] e f, subst (λ s. length s < size) same few)
fill_ended size old now new got (x ∷ more) n e few f long none = absurd (omega (arith, long, none))

-- bytes that were looked at stay so
pub looked_stays : (now new more : List ℕ) (search : Search) → IsLookedThrough now search → new ≡ now ++ more → IsLookedThrough new search
looked_stays now new more search looked e =
    let same : take search.at now ≡ take search.at new =
    sym (take-append-le search.at now more looked.within) ∙ ap (take search.at) (sym e)
    in
    let size : length new ≡ length now + length more = ap length e ∙ length-append now more in
    record {
      within = omega (arith, size, looked.within);
      going = subst IsUnfinished same looked.going;
      feeds = looked.feeds ∙ ap (count_by is_line_feed) same;
    }

-- ---- what comes next, by how the look for a block ended

module _ (bytes got new : List ℕ) (left : Option (List ℕ)) where
  -- the source failed before the block was found
  pub next_failed : (e : WireFault) (r : Result Next WireFault) (f : Result (Option Found) WireFault) → r ≡ Err e → f ≡ Err e → IsAdded bytes got new f
      → IsBlockFound (bytes ++ got) left f → IsRead (bytes ++ got) left new r
  next_failed e r (Ok b) is was add block = absurd (cc was)
  next_failed e r (Err fault.Memory) is was add block = let same : r ≡ Err fault.Memory = cc (is, was) in rw same tt
  next_failed e r (Err fault.SourceFault) is was add block =
      let same : r ≡ Err fault.SourceFault = cc (is, was) in rw same (unfinished (bytes ++ got) block, add)

  -- the source ended before
  pub next_truncated : (f : Option Found) → f ≡ None → IsAdded {T = Option Found} bytes got new (Ok f) → IsBlockFound (bytes ++ got) left (Ok f)
      → new ≢ [] → IsNext (bytes ++ got) left new next.Truncated
  next_truncated (Some x) is add block some = absurd (cc is)
  next_truncated None is add (going, end) some = (λ none. some (add ∙ none), unfinished (bytes ++ got) going, end, add)

-- what was read of bytes that were read before
pub read_on : (old now new got more : List ℕ) (left : Option (List ℕ)) (r : Result Next WireFault) → now ≡ old ++ got → IsRead (now ++ more) left new r
    → IsRead (old ++ (got ++ more)) left new r
read_on old now new got more left r e is = subst (λ s. IsRead s left new r) (added old now (now ++ more) got more e refl) is
