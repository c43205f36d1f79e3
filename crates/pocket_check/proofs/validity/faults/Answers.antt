use Rattle.std.proofs.Common.{◌≡◌, ◌∙◌, ap, arith, length}
use Rattle.std.specs.Iterator.Adapters.{zip_first, zip_second}
use Rattle.std.specs.Slice.Iter.{iter_rest}
use Rattle.std.proofs.lemmas.List.{length_push}
use Rattle.std.proofs.lemmas.Slice.Zip.{zip_end, zip_turn}
use Rattle.pocket_check.specs.Validity.{faults_of, field_fault}
use Rattle.pocket_check.proofs.JudgingLemmas.{fault_more, faults_end, single_at}
use Rattle.pocket_check.proofs.validity.faults.Goals as goal

pub field_fault-requires-clause-single : goal.field_fault-requires-clause-single
field_fault-requires-clause-single g c =
    let l = c.loop-field in
    let fields = c.args.collection.now.fields in
    let cells = c.args.rec.now.cells in
    let first : iter_rest (zip_first c.into_iter-field-iterator.result) ≡ fields =
    ap (λ z. iter_rest (zip_first z)) c.into_iter-field-iterator.ensures.into_iter_gives ∙ ap iter_rest c.zip-field-items.ensures.first ∙ c.iter.ensures.rest ∙ c.as_slice-fields.ensures in
    let second : iter_rest (zip_second c.into_iter-field-iterator.result) ≡ cells =
    ap (λ z. iter_rest (zip_second z)) c.into_iter-field-iterator.ensures.into_iter_gives ∙ c.zip-field-items.ensures.second.0 ∙ c.as_slice.ensures in
    let turn = zip_turn fields cells l.yielded c.into_iter-field-iterator.result l.field-iterator c.next.new.self c.next.result first second l.yielded_by (c.in-Some.field, c.in-Some.cell) c.in-Some.is c.next.ensures.steps in
    λ unique. single_at c.args.collection.now (length l.yielded) c.in-Some.field.now c.requires.sound turn.0 (turn.2 c.in-Some.field.now) unique

pub loop-field-preserved : goal.loop-field-preserved
loop-field-preserved g c =
    let l = c.loop-field in
    let fields = c.args.collection.now.fields in
    let cells = c.args.rec.now.cells in
    let first : iter_rest (zip_first c.into_iter-field-iterator.result) ≡ fields =
    ap (λ z. iter_rest (zip_first z)) c.into_iter-field-iterator.ensures.into_iter_gives ∙ ap iter_rest c.zip-field-items.ensures.first ∙ c.iter.ensures.rest ∙ c.as_slice-fields.ensures in
    let second : iter_rest (zip_second c.into_iter-field-iterator.result) ≡ cells =
    ap (λ z. iter_rest (zip_second z)) c.into_iter-field-iterator.ensures.into_iter_gives ∙ c.zip-field-items.ensures.second.0 ∙ c.as_slice.ensures in
    let turn = zip_turn fields cells l.yielded c.into_iter-field-iterator.result l.field-iterator c.next.new.self c.next.result first second l.yielded_by (c.in-Some.field, c.in-Some.cell) c.in-Some.is c.next.ensures.steps in
    let judge = field_fault c.args.tables.now.world c.args.collection.now c.args.rec.now in
    record {
      faults = c.in_ok-push_fault.ensures
          ∙ fault_more judge fields cells (length l.yielded) _ c.in-Some.field.now c.in-Some.cell.now _ l.found (length_push l.yielded (c.in-Some.field, c.in-Some.cell))
          turn.0 turn.1 (turn.2 c.in-Some.field.now) (turn.3 c.in-Some.cell.now) c.in_ok-fault.ensures.fault l.invariant.faults;
      steps = omega (arith, l.invariant.steps, c.in_ok-fault.ensures.steps);
    }

pub returns-clause-faults : goal.returns-clause-faults
unfolding faults_of
returns-clause-faults g c =
    let l = c.loop-field in
    let fields = c.args.collection.now.fields in
    let cells = c.args.rec.now.cells in
    let first : iter_rest (zip_first c.into_iter-field-iterator.result) ≡ fields =
    ap (λ z. iter_rest (zip_first z)) c.into_iter-field-iterator.ensures.into_iter_gives ∙ ap iter_rest c.zip-field-items.ensures.first ∙ c.iter.ensures.rest ∙ c.as_slice-fields.ensures in
    let second : iter_rest (zip_second c.into_iter-field-iterator.result) ≡ cells =
    ap (λ z. iter_rest (zip_second z)) c.into_iter-field-iterator.ensures.into_iter_gives ∙ c.zip-field-items.ensures.second.0 ∙ c.as_slice.ensures in
    let n = zip_end fields cells l.yielded c.into_iter-field-iterator.result l.field-iterator c.next.new.self c.next.result first second l.yielded_by c.in-None.is c.next.ensures.steps in
    l.invariant.faults ∙ faults_end (field_fault c.args.tables.now.world c.args.collection.now c.args.rec.now) fields cells (length l.yielded) n
