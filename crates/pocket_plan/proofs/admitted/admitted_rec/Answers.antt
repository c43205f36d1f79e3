use Rattle.std.proofs.Common.{Bool, sym, ◌∙◌}
use Rattle.std.specs.Str.{bytes_eq}
use Rattle.pocket_types.specs.declared.ids.Id.{Id}
use Rattle.pocket_types.specs.declared.records.Rec.{Rec}
use Rattle.pocket_plan.specs.Guarded.{is_admitted}
use Rattle.pocket_plan.proofs.Filtered.{passes_here, passes_not, passes_nowhere}
use Rattle.pocket_plan.proofs.admitted.admitted_rec.Goals as goal

abbrev has_id : Id → Rec → Bool
has_id id r = bytes_eq r.id id

pub returns-then-branch : goal.returns-then-branch
returns-then-branch c =
    passes_here (has_id c.args.id) (is_admitted c.args.guarded.now c.args.shelf.collection.now.name) c.args.shelf.recs.now c.loop-rec.rec-index c.rec-item.result c.loop-rec-test.true c.rec-item.is c.loop-rec.invariant (sym c.in_ok-is_wanted.ensures ∙ c.if-branch.true)

pub loop-rec-preserved : goal.loop-rec-preserved
loop-rec-preserved c =
    passes_not (has_id c.args.id) (is_admitted c.args.guarded.now c.args.shelf.collection.now.name) c.args.shelf.recs.now c.loop-rec.rec-index c.rec-item.result c.loop-rec-test.true c.rec-item.is c.loop-rec.invariant (sym c.in_ok-is_wanted.ensures ∙ c.if-branch.false)

pub returns : goal.returns
returns c =
    passes_nowhere (has_id c.args.id) (is_admitted c.args.guarded.now c.args.shelf.collection.now.name) c.args.shelf.recs.now c.loop-rec.rec-index c.loop-rec-test.false c.loop-rec.invariant
