use Rattle.std.proofs.Common.{◌≡◌, length}
use Rattle.std.specs.Iterator.Adapters.{zip_first, zip_second}
use Rattle.std.specs.Slice.Iter.{iter_rest}
use Rattle.std.proofs.lemmas.Slice.Zip.{zip_end}
use Rattle.pocket_store.proofs.HoldLemmas.{hold_end}
use Rattle.pocket_store.proofs.good_recs.all_hold_kept.Goals as goal

pub returns : goal.returns
returns c =
    let first : iter_rest (zip_first c.into_iter-field-iterator.result) ≡ c.args.fields.now = cc in
    let second : iter_rest (zip_second c.into_iter-field-iterator.result) ≡ c.args.cells.now = cc in
    let n = zip_end c.args.fields.now c.args.cells.now c.loop-field.yielded c.into_iter-field-iterator.result c.loop-field.field-iterator c.next.new.self c.next.result first second c.loop-field.yielded_by c.in-None.is c.next.ensures.steps in
    c.loop-field.invariant.back (hold_end c.args.rows.now (length c.loop-field.yielded) c.args.fields.now c.args.cells.now n)
