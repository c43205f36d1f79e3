use Rattle.std.proofs.Common.{◌≡◌, [], ◌∷◌, ◌++◌, drop, length, add-one, sym, ap, ◌∙◌}
use Rattle.std.specs.Iterator.Adapters.{zip_first, zip_second}
use Rattle.std.specs.Option.{option_to_list}
use Rattle.std.specs.Slice.Iter.{iter_rest}
use Rattle.std.proofs.lemmas.List.{length_push}
use Rattle.std.proofs.lemmas.Slice.Zip.{zip_end, zip_turn}
use Rattle.pocket_check.specs.Bodies.{field_sent}
use Rattle.pocket_check.proofs.LoopLemmas.{fits_at, not_pushed, pushed, sent_begin, sent_end, sent_fault, sent_more, sent_on}
use Rattle.pocket_check.proofs.bodies.sent_fields.Goals as goal

pub field_sent-found-requires-clause-fit : goal.field_sent-found-requires-clause-fit
field_sent-found-requires-clause-fit c =
    let l = c.loop-field in
    let fields = c.args.collection.now.fields in
    let old = c.args.old.now in
    let f = c.in-Some.field.now in
    let cell = c.in-Some.cell.now in
    let first : iter_rest (zip_first c.into_iter-field-iterator.result) ≡ fields = cc in
    let second : iter_rest (zip_second c.into_iter-field-iterator.result) ≡ old = cc in
    let turn = zip_turn fields old l.yielded c.into_iter-field-iterator.result l.field-iterator c.next.new.self c.next.result first second l.yielded_by (c.in-Some.field, c.in-Some.cell) c.in-Some.is c.next.ensures.steps in
    fits_at fields old (length l.yielded) f cell turn.0 turn.1 (turn.2 f) (turn.3 cell) c.requires.fit

pub loop-field-preserved : goal.loop-field-preserved
loop-field-preserved c =
    let l = c.loop-field in
    let fields = c.args.collection.now.fields in
    let old = c.args.old.now in
    let f = c.in-Some.field.now in
    let cell = c.in-Some.cell.now in
    let first : iter_rest (zip_first c.into_iter-field-iterator.result) ≡ fields = cc in
    let second : iter_rest (zip_second c.into_iter-field-iterator.result) ≡ old = cc in
    let turn = zip_turn fields old l.yielded c.into_iter-field-iterator.result l.field-iterator c.next.new.self c.next.result first second l.yielded_by (c.in-Some.field, c.in-Some.cell) c.in-Some.is c.next.ensures.steps in
    let who = c.args.caller.now in
    let ms = c.args.members.now in
    let one = pushed c.field_sent-found.result (field_sent who ms (f, cell)) c.push_sent.result _ l.sent c.push_sent.new.sent c.field_sent-found.ensures c.push_sent.ensures c.in-Ok.is in
    l.invariant
    ∙ sent_more who ms fields old (length l.yielded) f cell one.0 l.sent turn.0 turn.1 (turn.2 f) (turn.3 cell) one.1
    ∙ ap (λ n. sent_on who ms (drop n fields) (drop n old) (l.sent ++ option_to_list one.0)) (sym (length_push l.yielded (c.in-Some.field, c.in-Some.cell) ∙ add-one (length l.yielded)))
    ∙ ap (sent_on who ms (drop (length (l.yielded ++ (c.in-Some.field, c.in-Some.cell) ∷ [])) fields) (drop (length (l.yielded ++ (c.in-Some.field, c.in-Some.cell) ∷ [])) old)) (sym one.2)

pub returns-in-Err : goal.returns-in-Err
returns-in-Err c other =
    let l = c.loop-field in
    let fields = c.args.collection.now.fields in
    let old = c.args.old.now in
    let f = c.in-Some.field.now in
    let cell = c.in-Some.cell.now in
    let first : iter_rest (zip_first c.into_iter-field-iterator.result) ≡ fields = cc in
    let second : iter_rest (zip_second c.into_iter-field-iterator.result) ≡ old = cc in
    let turn = zip_turn fields old l.yielded c.into_iter-field-iterator.result l.field-iterator c.next.new.self c.next.result first second l.yielded_by (c.in-Some.field, c.in-Some.cell) c.in-Some.is c.next.ensures.steps in
    let who = c.args.caller.now in
    let ms = c.args.members.now in
    let fault = not_pushed c.field_sent-found.result (field_sent who ms (f, cell)) c.push_sent.result c.in-Err.fault l.sent c.push_sent.new.sent c.field_sent-found.ensures c.push_sent.ensures c.in-Err.is other in
    sent_begin who c.args.collection.now old ms ∙ l.invariant ∙ sent_fault who ms fields old (length l.yielded) f cell c.in-Err.fault l.sent turn.0 turn.1 (turn.2 f) (turn.3 cell) fault

pub returns : goal.returns
returns c =
    let l = c.loop-field in
    let fields = c.args.collection.now.fields in
    let old = c.args.old.now in
    let first : iter_rest (zip_first c.into_iter-field-iterator.result) ≡ fields = cc in
    let second : iter_rest (zip_second c.into_iter-field-iterator.result) ≡ old = cc in
    let n = zip_end fields old l.yielded c.into_iter-field-iterator.result l.field-iterator c.next.new.self c.next.result first second l.yielded_by c.in-None.is c.next.ensures.steps in
    sent_begin c.args.caller.now c.args.collection.now old c.args.members.now ∙ l.invariant ∙ sent_end c.args.caller.now c.args.members.now fields old (length l.yielded) l.sent n
