use Rattle.std.proofs.Common.{sym, ap, subst, ◌∙◌}
use Rattle.std.proofs.lemmas.Result.{IfOk-weaker}
use Rattle.pocket_types.specs.declared.records.Rec.{Rec}
use Rattle.pocket_tables.specs.Worlds.{HasShape, shapes_of}
use Rattle.pocket_check.specs.Bodies.{with_sent}
use Rattle.pocket_check.specs.Cells.{zero_cells}
use Rattle.pocket_change.proofs.ChainLemmas.{new_shape}
use Rattle.pocket_change.proofs.candidates.tree_candidate.Goals as goal

pub returns-clause-shape : goal.returns-clause-shape
returns-clause-shape g c =
    let k = c.args.collection.now in
    let cells = ap (λ (r : Rec). r.cells) c.in-Ok-new_rec.ensures ∙ ap (λ fs. with_sent fs k (zero_cells k)) c.as_slice.ensures in
    let shape = new_shape c.zero_cells_fit.ensures c.sent_cells_have_shape.ensures c.args.ask.now.caller k c.args.tree.now c.in-Ok-fields_sent.fields c.in-Ok-new_rec.rec
    c.requires.sound c.requires.profile c.in-Ok-fields_sent.ensures cells in
    IfOk-weaker c.free_candidate.result _ _ (λ x same. subst (HasShape (shapes_of k)) (sym same) shape) c.free_candidate.ensures.same
