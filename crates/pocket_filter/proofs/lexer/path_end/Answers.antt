use Rattle.std.proofs.Common.{◌+◌, ◌&&◌, drop, get_or, sym, ◌∙◌, ap, arith, add-zero}
use Rattle.std.proofs.lemmas.List.{drop_more, get_or-drop}
use Rattle.pocket_types.specs.Names.{is_word}
use Rattle.pocket_filter.specs.Scanning.{joins, path_len}
use Rattle.pocket_filter.proofs.Idents.{path_joined, path_stops}
use Rattle.pocket_filter.proofs.lexer.path_end.Goals as goal

pub returns-then-not-goes_on : goal.returns-then-not-goes_on
returns-then-not-goes_on c =
    let bytes = c.args.bytes.now in
    let at = c.loop-at.at in
    let suffixed = c.loop-at.suffixed in
    let b = get_or bytes at 0 in
    let rest = drop (at + 1) bytes in
    let word = sym c.is_word_byte.ensures ∙ c.if-is_word_byte.false in
    let next = c.byte_at.ensures ∙ sym (get_or-drop (at + 1) bytes 0 0 ∙ ap (λ k. get_or bytes k 0) (add-zero (at + 1))) in
    let goes = sym (c.goes_on.ensures ∙ ap (λ d. joins suffixed b && is_word d) next) ∙ c.if-not-goes_on.true in
    let stops = ap (path_len suffixed) (drop_more bytes at 0 (omega arith)) ∙ path_stops suffixed b rest word goes in
    let whole = c.loop-at.invariant in
    omega arith

pub loop-at-preserved : goal.loop-at-preserved
loop-at-preserved c =
    let bytes = c.args.bytes.now in
    let at = c.loop-at.at in
    let suffixed = c.loop-at.suffixed in
    let b = get_or bytes at 0 in
    let rest = drop (at + 1) bytes in
    let word = sym c.is_word_byte.ensures ∙ c.if-is_word_byte.false in
    let next = c.byte_at.ensures ∙ sym (get_or-drop (at + 1) bytes 0 0 ∙ ap (λ k. get_or bytes k 0) (add-zero (at + 1))) in
    let goes = sym (c.goes_on.ensures ∙ ap (λ d. joins suffixed b && is_word d) next) ∙ c.if-not-goes_on.false in
    let joined = ap (path_len suffixed) (drop_more bytes at 0 (omega arith)) ∙ path_joined suffixed b rest word goes in
    let whole = c.loop-at.invariant in
    omega arith
