use Rattle.std.proofs.Common.{◌≡◌, ◌∙◌, length}
use Rattle.std.specs.Iterator.Adapters.{zip_first, zip_second}
use Rattle.std.specs.Slice.Iter.{iter_rest}
use Rattle.std.proofs.lemmas.Slice.Zip.{zip_end}
use Rattle.pocket_change.proofs.SentLemmas.{all_made}
use Rattle.pocket_change.proofs.bodies.cells_with.Goals as goal

pub returns : goal.returns
returns c =
    let l = c.loop-field in
    let fields = c.args.collection.now.fields in
    let old = c.args.old.now in
    let first : iter_rest (zip_first c.into_iter-field-iterator.result) ≡ fields = cc in
    let second : iter_rest (zip_second c.into_iter-field-iterator.result) ≡ old = cc in
    let n = zip_end fields old l.yielded c.into_iter-field-iterator.result l.field-iterator c.next.new.self c.next.result first second l.yielded_by c.in-None.is c.next.ensures.steps in
    c.from_vec.ensures ∙ all_made c.args.sent.now c.args.collection.now (length l.yielded) l.made.items old n l.invariant
