use Rattle.std.proofs.Common.{◌≡◌, ◌+◌, slice_index, false, sym, ◌∙◌, ap, subst, arith}
use Rattle.std.specs.Str.{IsCharBoundary}
use Rattle.pocket_filter.specs.Scanning.{sign_len, begins_name, path_len}
use Rattle.pocket_filter.proofs.Fronts.{slice_rest, index_rest}
use Rattle.pocket_filter.proofs.Idents.{ident_len, ident_found}
use Rattle.pocket_filter.proofs.lexer.ident.Goals as goal

pub overflow_add-len : goal.overflow_add-len
overflow_add-len c =
    let bytes = c.args.text.now in
    let start = c.sign_len-start.ensures ∙ ap (λ s. sign_len 64 (slice_index s 0)) c.as_bytes-bytes.ensures.value in
    let first = c.byte_at.ensures ∙ index_rest _ bytes _ _ c.as_bytes-bytes.ensures.value start in
    let begins = sym (c.begins_name.ensures ∙ ap begins_name first) ∙ c.if-not-begins_name.false in
    let rest = c.path_end.ensures ∙ ap (path_len false) (slice_rest _ bytes _ _ c.as_bytes-bytes.ensures.value start) in
    let found = ident_found bytes c.utf8.text c.requires begins in
    let within = found.1.within in
    omega arith

pub range-requires-clause-end_boundary : goal.range-requires-clause-end_boundary
range-requires-clause-end_boundary c =
    let bytes = c.args.text.now in
    let start = c.sign_len-start.ensures ∙ ap (λ s. sign_len 64 (slice_index s 0)) c.as_bytes-bytes.ensures.value in
    let first = c.byte_at.ensures ∙ index_rest _ bytes _ _ c.as_bytes-bytes.ensures.value start in
    let begins = sym (c.begins_name.ensures ∙ ap begins_name first) ∙ c.if-not-begins_name.false in
    let rest = c.path_end.ensures ∙ ap (path_len false) (slice_rest _ bytes _ _ c.as_bytes-bytes.ensures.value start) in
    let len : ident_len bytes ≡ c.sign_len-start.result + c.path_end.result = omega arith in
    subst (IsCharBoundary bytes) len (ident_found bytes c.utf8.text c.requires begins).2
