use Rattle.std.proofs.Common.{◌≡◌, length}
use Rattle.std.specs.Iterator.Adapters.{zip_first, zip_second}
use Rattle.std.specs.Slice.Iter.{iter_rest}
use Rattle.std.proofs.lemmas.List.{length_push}
use Rattle.std.proofs.lemmas.Slice.Zip.{zip_turn, zip_end}
use Rattle.pocket_types.specs.Json.{printed}
use Rattle.pocket_ops.specs.Trees.{cell_jv}
use Rattle.pocket_ops.proofs.LengthLemmas.{row_len-more, row_len-end}
use Rattle.pocket_ops.proofs.row_lengths.row_len.Goals as goal

pub loop-field-preserved : goal.loop-field-preserved
loop-field-preserved c =
    let l = c.loop-field in
    let fields = c.args.collection.now.fields in
    let cells = c.args.rec.now.cells in
    let f = c.in-Some.field.now in
    let cell = c.in-Some.cell.now in
    let first : iter_rest (zip_first c.into_iter-field-iterator.result) ≡ fields = cc in
    let second : iter_rest (zip_second c.into_iter-field-iterator.result) ≡ cells = cc in
    let turn = zip_turn fields cells l.yielded c.into_iter-field-iterator.result l.field-iterator c.next.new.self c.next.result first second l.yielded_by (c.in-Some.field, c.in-Some.cell) c.in-Some.is c.next.ensures.steps in
    let item = rw c.as_str.ensures.text at c.member_len.ensures (printed (cell_jv f.kind cell)) c.cell_len-value.ensures in
    row_len-more fields cells (length l.yielded) _ f cell l.len _ c.member_len.result _ _ (length_push l.yielded (c.in-Some.field, c.in-Some.cell)) turn.0 turn.1 (turn.2 f) (turn.3 cell)
    l.invariant.1 item c.saturating_add-len.ensures c.saturating_add-len-in-loop-field.ensures

pub returns : goal.returns
returns c =
    let l = c.loop-field in
    let fields = c.args.collection.now.fields in
    let cells = c.args.rec.now.cells in
    let first : iter_rest (zip_first c.into_iter-field-iterator.result) ≡ fields = cc in
    let second : iter_rest (zip_second c.into_iter-field-iterator.result) ≡ cells = cc in
    let n = zip_end fields cells l.yielded c.into_iter-field-iterator.result l.field-iterator c.next.new.self c.next.result first second l.yielded_by c.in-None.is c.next.ensures.steps in
    row_len-end c.args.collection.now c.args.rec.now (length l.yielded) l.len c.requires n l.invariant.0 l.invariant.1
