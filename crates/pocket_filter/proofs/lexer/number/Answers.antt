use Rattle.std.proofs.Common.{◌≡◌, ◌<◌, ◌+◌, ◌^◌, take, slice_index, Some, None, sym, ◌∙◌, ap, subst, arith, w64}
use Rattle.std.specs.List.{prefix_len}
use Rattle.std.specs.Str.{IsCharBoundary}
use Rattle.std.specs.Int.RustNames.{unsigned_abs}
use Rattle.std.proofs.lemmas.Int.{to_z-of_z, fits_signed_from_abs}
use Rattle.pocket_types.specs.Names.{is_digit}
use Rattle.pocket_filter.specs.Fronts as front
use Rattle.pocket_filter.specs.Tokens.{Number}
use Rattle.pocket_filter.specs.Lexing.{IsNumber}
use Rattle.pocket_filter.specs.Scanning.{sign_len}
use Rattle.pocket_filter.proofs.FrontLemmas.{number_ranged_is}
use Rattle.pocket_filter.proofs.Fronts.{slice_front, slice_rest}
use Rattle.pocket_filter.proofs.Numbers.{number_len, number_found, range_some}
use Rattle.pocket_filter.proofs.lexer.number.Goals as goal

pub overflow_add-len : goal.overflow_add-len
overflow_add-len c =
    let bytes = c.args.text.now in
    let start = c.sign_len-start.ensures ∙ ap (λ s. sign_len 45 (slice_index s 0)) c.as_bytes-bytes.ensures.value in
    let digits = c.digits_len-digits.ensures ∙ ap (prefix_len is_digit) (slice_rest _ bytes _ _ c.as_bytes-bytes.ensures.value start) in
    let none = c.if-digits-eq0.false in
    let found = number_found bytes c.utf8.text c.requires (omega arith) in
    let within = found.2.within in
    omega arith

pub range-requires-clause-end_boundary : goal.range-requires-clause-end_boundary
range-requires-clause-end_boundary c =
    let bytes = c.args.text.now in
    let start = c.sign_len-start.ensures ∙ ap (λ s. sign_len 45 (slice_index s 0)) c.as_bytes-bytes.ensures.value in
    let digits = c.digits_len-digits.ensures ∙ ap (prefix_len is_digit) (slice_rest _ bytes _ _ c.as_bytes-bytes.ensures.value start) in
    let none = c.if-digits-eq0.false in
    let found = number_found bytes c.utf8.text c.requires (omega arith) in
    let len : number_len bytes ≡ c.sign_len-start.result + c.digits_len-digits.result = omega arith in
    subst (IsCharBoundary bytes) len found.3

pub returns-in-Some : goal.returns-in-Some
returns-in-Some c =
    let bytes = c.args.text.now in
    let start = c.sign_len-start.ensures ∙ ap (λ s. sign_len 45 (slice_index s 0)) c.as_bytes-bytes.ensures.value in
    let digits = c.digits_len-digits.ensures ∙ ap (prefix_len is_digit) (slice_rest _ bytes _ _ c.as_bytes-bytes.ensures.value start) in
    let none = c.if-digits-eq0.false in
    let found = number_found bytes c.utf8.text c.requires (omega arith) in
    let len : number_len bytes ≡ c.sign_len-start.result + c.digits_len-digits.result = omega arith in
    let cut = slice_front bytes c.range.result.now _ c.range.ensures.value in
    let spelled = subst (λ s. IsNumber s found.0) (ap (λ n. take n bytes) len ∙ sym cut) found.1 in
    let is = sym (c.number_of.ensures found.0 spelled) ∙ c.in-Some.is in
    let small : unsigned_abs c.in-Some.n < 2 ^ 53 = (range_some found.0 c.in-Some.n is).1 in
    let back : _ = to_z-of_z w64 c.in-Some.n (fits_signed_from_abs w64 c.in-Some.n (omega arith)) in
    ap (λ n. front.Token (Number n) (c.sign_len-start.result + c.digits_len-digits.result)) back ∙ ap (front.Token (Number c.in-Some.n)) (sym len)
    ∙ sym (number_ranged_is bytes (Some c.in-Some.n) found.0 (omega arith) found.1 is)

pub returns-in-None : goal.returns-in-None
returns-in-None c =
    let bytes = c.args.text.now in
    let start = c.sign_len-start.ensures ∙ ap (λ s. sign_len 45 (slice_index s 0)) c.as_bytes-bytes.ensures.value in
    let digits = c.digits_len-digits.ensures ∙ ap (prefix_len is_digit) (slice_rest _ bytes _ _ c.as_bytes-bytes.ensures.value start) in
    let none = c.if-digits-eq0.false in
    let found = number_found bytes c.utf8.text c.requires (omega arith) in
    let len : number_len bytes ≡ c.sign_len-start.result + c.digits_len-digits.result = omega arith in
    let cut = slice_front bytes c.range.result.now _ c.range.ensures.value in
    let spelled = subst (λ s. IsNumber s found.0) (ap (λ n. take n bytes) len ∙ sym cut) found.1 in
    sym (number_ranged_is bytes None found.0 (omega arith) found.1 (sym (c.number_of.ensures found.0 spelled) ∙ c.in-None.is))
