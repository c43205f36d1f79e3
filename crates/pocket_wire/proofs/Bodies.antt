-- What stands in bytes that begin with the block of a head.
use Rattle.std.proofs.Common.{◌≡◌, ◌≢◌, inl, inr, ℕ, ◌+◌, ◌-◌, ◌≤◌, ◌<◌, List, [], ◌++◌, length, take, drop, refl, ap, sym, ◌∙◌, subst, arith, Bool, true, false, Option, None, Some, Result, Ok, Err, append_assoc, length-append}
use Rattle.std.specs.Prelude.{slice_range}
use Rattle.std.proofs.lemmas.Bool.{cases_lt}
use Rattle.std.proofs.lemmas.List.{take-append-le, take-append-drop, length-take-le, length-drop, append-nil}
use Rattle.std.proofs.Math.Seq.{take-add}
use Rattle.httparse.specs.Grammar.{RequestHead}
use Rattle.pocket_wire.specs.declared.head.Head.{Head}
use Rattle.pocket_wire.specs.declared.head.Head.TheVariants as head
use Rattle.pocket_wire.specs.declared.head.HeadParts.{HeadParts}
use Rattle.pocket_wire.specs.declared.request.Request.{Request}
use Rattle.pocket_wire.specs.declared.request.Next.{Next}
use Rattle.pocket_wire.specs.declared.request.Next.TheVariants as next
use Rattle.pocket_wire.specs.declared.request.WireFault.{WireFault}
use Rattle.pocket_wire.specs.declared.request.WireFault.TheVariants as fault
use Rattle.pocket_wire.specs.Blocks.{after_empty_line, IsBlock}
use Rattle.pocket_wire.specs.Heads.{AreRefused, AsksFor, IsHead, asks_close, body_length, fields_of}
use Rattle.pocket_wire.specs.Phrases.{IsReplyStatus}
use Rattle.pocket_wire.specs.Reads.{ReadsWhile}
use Rattle.pocket_wire.specs.Requests.{BeginsWithRequest, IsDecided, IsRefused}
use Rattle.pocket_wire.specs.Reading.{IsNext, IsRead}
use Rattle.pocket_wire.specs.Steps.{IsAdded, IsAsked, IsFilled, IsHeadOf, IsWithBody}
use Rattle.pocket_wire.proofs.Pieces.{reads_hold}
use Rattle.pocket_wire.proofs.Decisions.{not_refused, not_too_long, one_block, one_head, request_block, some_bytes}
use Rattle.pocket_wire.proofs.Verdicts.{good_status, small_body}

-- ---- lines that ask for a request

-- the head that they are
asking : (lines : List ℕ) (parts : HeadParts) → IsHeadOf lines (head.Asks parts) → (h : RequestHead) × IsHead lines h × IsAsked h.method h.target h.minor (fields_of h) parts
asking lines parts (inl (h, is, asked)) = (h, is, asked)
asking lines parts (inr (e, none)) = absurd (cc e)

-- its body is small
pub body_small : (lines : List ℕ) (parts : HeadParts) → IsHeadOf lines (head.Asks parts) → parts.length ≤ 1048576
body_small lines parts is = let a = asking lines parts is in small_body a.0.method a.0.target (fields_of a.0) parts.length a.2.good a.2.length

-- ---- lines that are refused

pub refused_lines : (lines : List ℕ) (status : ℕ) → IsHeadOf lines (head.Refused status) → AreRefused lines status
refused_lines lines status (inl (h, is, refused)) = inl (h, is, refused)
refused_lines lines status (inr (e, none)) = inr (cc e, none)

pub refused_status : (lines : List ℕ) (status : ℕ) → IsHeadOf lines (head.Refused status) → IsReplyStatus status
refused_status lines status (inl (h, is, refused)) = good_status h.method h.target (fields_of h) status refused
refused_status lines status (inr (e, none)) = let is : status ≡ 400 = cc e in rw is refl

-- ---- a block, and the body behind it

module _ (bytes block rest : List ℕ) (parts : HeadParts) (cut : bytes ≡ block ++ rest) (is_block : IsBlock block)
    (asked : IsHeadOf (after_empty_line block) (head.Asks parts)) where
  size : length bytes ≡ length block + length rest
  size = ap length cut ∙ length-append block rest

  -- less than the body that the head asks for decides nothing
  pub short_body : length bytes < length block + parts.length → ¬ (IsDecided bytes)
  short_body short (inl (request, tail, begins)) =
      let a = asking (after_empty_line block) parts asked in
      let r = begins.2 in
      let at = request_block bytes tail request begins in
      let same : block ≡ r.block = one_block bytes block r.block rest (request.body ++ tail) cut at is_block r.is_block in
      let again : IsHead (after_empty_line block) r.h = subst (λ b. IsHead (after_empty_line b) r.h) (sym same) r.is_head in
      let equal : a.0 ≡ r.h = one_head (after_empty_line block) a.0 r.h a.1 again in
      let known : body_length (fields_of a.0) ≡ Some (length request.body) =
      subst (λ (h : RequestHead). body_length (fields_of h) ≡ Some (length request.body)) (sym equal) r.asks.length
      in
      let body : parts.length ≡ length request.body = cc (known, a.2.length) in
      let whole : length bytes ≡ length r.block + length (request.body ++ tail) = ap length at ∙ length-append r.block (request.body ++ tail) in
      let blocks : length block ≡ length r.block = ap length same in
      omega (arith, whole, blocks, body, short, length-append request.body tail)
  short_body short (inr (status, inl (e, long))) = not_too_long bytes block rest cut is_block long
  short_body short (inr (status, inr bad)) =
      let a = asking (after_empty_line block) parts asked in
      let same : bad.block ≡ block = one_block bytes bad.block block bad.rest rest bad.bytes_are cut bad.is_block is_block in
      let refused : AreRefused (after_empty_line block) status = subst (λ b. AreRefused (after_empty_line b) status) same bad.refused in
      not_refused (after_empty_line block) a.0 status a.1 a.2.good refused

  -- what is decided has the whole body
  pub whole_body : IsDecided bytes → length block + parts.length ≤ length bytes
  whole_body decided =
      elim (cases_lt (length bytes) (length block + parts.length)) [
        | inl short ↦ absurd (short_body short decided)
        | inr whole ↦ whole
      ]

  pub not_empty : bytes ≢ []
  not_empty = some_bytes bytes block rest cut is_block

-- the request of a head and its body
with_body : (h : RequestHead) (parts : HeadParts) (body : List ℕ) (all : ℕ) (request : Request) → IsAsked h.method h.target h.minor (fields_of h) parts
    → IsWithBody parts body all request → length body ≡ parts.length → AsksFor h request
with_body h parts body all request asked is len =
    record {
      good = asked.good;
      method = asked.method ∙ ap Some (sym is.method);
      target = is.target ∙ asked.target_is;
      headers = is.headers ∙ asked.headers;
      length = asked.length ∙ ap Some (sym len ∙ ap length (sym is.body_is));
      close = is.close ∙ asked.close ∙ ap (asks_close h.minor) (sym is.headers);
    }

-- a block, the body and what stands behind it
pub request_stands : (all body kept : List ℕ) (start size : ℕ) (parts : HeadParts) (request : Request) → size ≡ start + parts.length → size ≤ length all
    → IsBlock (take start all) → IsHeadOf (after_empty_line (take start all)) (head.Asks parts) → body ≡ slice_range all start size → kept ≡ drop size all
    → IsWithBody parts body size request → BeginsWithRequest all request kept
request_stands all body kept start size parts request sum fits block asked body_is kept_is is =
    let a = asking (after_empty_line (take start all)) parts asked in
    let room : size - start ≡ parts.length = omega (arith, sum) in
    let behind : length (drop start all) ≡ length all - start = length-drop start all in
    let len : length body ≡ parts.length =
    ap length body_is ∙ length-take-le (size - start) (drop start all) (omega (arith, sum, fits, behind)) ∙ room
    in
    let front : take size all ≡ take start all ++ body =
    ap (λ n. take n all) sum ∙ take-add start parts.length all ∙ ap (λ s. take start all ++ s) (ap (λ n. take n (drop start all)) (sym room) ∙ sym body_is)
    in (
      take size all,
      sym (take-append-drop size all) ∙ ap (λ s. take size all ++ s) (sym kept_is),
      record {
        block = take start all;
        h = a.0;
        bytes_are = front ∙ ap (λ s. take start all ++ s) (sym is.body_is);
        is_block = block;
        is_head = a.1;
        asks = with_body a.0 parts body size request a.2 is len;
        cost = is.cost ∙ sym (length-take-le size all fits);
      },
    )

-- ---- reading on from the block of a head that asks for a request

module _ (bytes : List ℕ) (start : ℕ) (parts : HeadParts) (within : start ≤ length bytes) (block : IsBlock (take start bytes))
    (asked : IsHeadOf (after_empty_line (take start bytes)) (head.Asks parts)) where
  begun : length (take start bytes) ≡ start
  begun = length-take-le start bytes within

  -- the length of a request fits
  pub size_fits : start + parts.length ≤ 1064960
  size_fits = let small = body_small (after_empty_line (take start bytes)) parts asked in omega (arith, begun, block.few, small)

  -- bytes that decide hold the whole body
  pub has_body : IsDecided bytes → start + parts.length ≤ length bytes
  has_body decided =
      let whole = whole_body bytes (take start bytes) (drop start bytes) parts (sym (take-append-drop start bytes)) block asked decided in
      omega (arith, whole, begun)

  module _ (got new : List ℕ) (left : Option (List ℕ)) where
    -- the block stands in more bytes too
    same_block : take start (bytes ++ got) ≡ take start bytes
    same_block = take-append-le start bytes got within

    cut : bytes ++ got ≡ take start bytes ++ (drop start bytes ++ got)
    cut = ap (λ s. s ++ got) (sym (take-append-drop start bytes)) ∙ append_assoc (take start bytes) (drop start bytes) got

    undecided : length (bytes ++ got) < start + parts.length → ¬ (IsDecided (bytes ++ got))
    undecided short =
        short_body (bytes ++ got) (take start bytes) (drop start bytes ++ got) parts cut block asked (omega (arith, short, begun))

    -- the source failed before the whole body was there
    pub body_failed : (e : WireFault) (r : Result Next WireFault) (f : Result Bool WireFault) → r ≡ Err e → f ≡ Err e → IsAdded bytes got new f
        → IsFilled (start + parts.length) (bytes ++ got) left f → IsRead (bytes ++ got) left new r
    body_failed e r (Ok b) is was add filled = absurd (cc was)
    body_failed e r (Err fault.Memory) is was add filled = let same : r ≡ Err fault.Memory = cc (is, was) in rw same tt
    body_failed e r (Err fault.SourceFault) is was add filled = let same : r ≡ Err fault.SourceFault = cc (is, was) in rw same (undecided filled, add)

    -- the source ended before
    pub body_truncated : (b : Bool) → b ≡ false → IsAdded {T = Bool} bytes got new (Ok b) → IsFilled (start + parts.length) (bytes ++ got) left (Ok b)
        → IsNext (bytes ++ got) left new next.Truncated
    body_truncated true e add filled = absurd (cc e)
    body_truncated false e add (short, end) =
        (not_empty (bytes ++ got) (take start bytes) (drop start bytes ++ got) parts cut block asked, undecided short, end, add)

    -- the whole body is there
    pub body_read : (b : Bool) (body kept : List ℕ) (request : Request) → b ≡ true → IsAdded {T = Bool} bytes got new (Ok b)
        → IsFilled (start + parts.length) (bytes ++ got) left (Ok b) → body ≡ slice_range new start (start + parts.length) → kept ≡ drop (start + parts.length) new
        → IsWithBody parts body (start + parts.length) request → BeginsWithRequest (bytes ++ got) request kept
    body_read false body kept request e add filled body_is kept_is is = absurd (cc e)
    body_read true body kept request e add filled body_is kept_is is =
        request_stands (bytes ++ got) body kept start (start + parts.length) parts request refl filled (subst IsBlock (sym same_block) block)
        (subst (λ s. IsHeadOf (after_empty_line s) (head.Asks parts)) (sym same_block) asked)
        (body_is ∙ ap (λ s. slice_range s start (start + parts.length)) add) (kept_is ∙ ap (drop (start + parts.length)) add) is

  -- what is read until the whole body is there is read while nothing is decided
  pub reads_undecided : {S : Type 0} (gives : S → List ℕ → S → Type 0) (got : List ℕ) (old new : S)
      → ReadsWhile gives (λ s. length s < start + parts.length) bytes got old new → ReadsWhile gives (λ s. ¬ (IsDecided s)) bytes got old new
  reads_undecided gives got old new = reads_hold gives (λ s. length s < start + parts.length) (λ s. ¬ (IsDecided s)) bytes got old new
      (λ more short. undecided more bytes None short)

-- ---- a block whose head is refused

module _ (bytes lines : List ℕ) (end status : ℕ) (is : Head) (within : end ≤ length bytes) (block : IsBlock (take end bytes))
    (lines_are : lines ≡ after_empty_line (take end bytes)) (of : IsHeadOf lines is) (refused : is ≡ head.Refused status) where
  comes_to : IsHeadOf (after_empty_line (take end bytes)) (head.Refused status)
  comes_to = subst (λ h. IsHeadOf (after_empty_line (take end bytes)) h) refused (subst (λ s. IsHeadOf s is) lines_are of)

  pub is_refused : IsNext (bytes ++ []) None bytes (next.Refused status)
  is_refused =
      let bad : IsRefused bytes status = inr (record {
        block = take end bytes;
        rest = drop end bytes;
        bytes_are = sym (take-append-drop end bytes);
        is_block = block;
        refused = refused_lines (after_empty_line (take end bytes)) status comes_to;
      })
      in
      (subst (λ s. IsRefused s status) (sym (append-nil bytes)) bad, sym (append-nil bytes))

  pub has_status : IsReplyStatus status
  has_status = refused_status (after_empty_line (take end bytes)) status comes_to
