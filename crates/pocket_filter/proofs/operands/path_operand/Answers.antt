use Rattle.std.proofs.Common.{◌≡◌, ◌<◌, slice_index, sym, ◌∙◌, ap, arith}
use Rattle.std.proofs.lemmas.Str.{IsCharBoundary-after_ascii}
use Rattle.pocket_filter.proofs.Parts.{some_at}
use Rattle.pocket_filter.proofs.operands.path_operand.Goals as goal

pub range_from-requires : goal.range_from-requires
range_from-requires c =
    let written = c.args.written.now in
    let sign : slice_index written 0 ≡ 64 = sym (c.byte_at.ensures ∙ ap (λ s. slice_index s 0) c.as_bytes.ensures.value) ∙ c.if-byte_at-eq64.true in
    let small : slice_index written 0 < 128 = omega arith in
    λ _. IsCharBoundary-after_ascii written 0 c.utf8.written (some_at written sign) small
