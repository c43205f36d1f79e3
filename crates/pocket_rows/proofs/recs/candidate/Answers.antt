use Rattle.std.proofs.Common.{subst, sym}
use Rattle.std.proofs.lemmas.Result.{IfOk-weaker}
use Rattle.pocket_rows.proofs.RecLemmas.{no_rec-map, rec_read, RecFound, RecMayKeep}
use Rattle.pocket_rows.specs.Cells.{MayBeMap}
use Rattle.pocket_rows.proofs.recs.candidate.Goals as goal

pub returns-in_default-2 : goal.returns-in_default-2
returns-in_default-2 c = no_rec-map c.args.collection.now c.args.row.now c.as_str-3.result.now c.requires c.as_str-3.ensures (rw c.in_default-2.is at c.in_ok-members.ensures)

pub returns : goal.returns
returns c =
    let value = c.as_str-3.result.now in
    let ms = c.as_slice.result.now in
    let h = rw c.in-Some-2.is at c.in_ok-members.ensures in
    let is = subst (λ x. MayBeMap value x) (sym c.as_slice.ensures) h in
    IfOk-weaker c.rec_of_members.result (RecFound c.args.collection.now c.in-Some.id ms) (RecMayKeep c.args.collection.now c.args.row.now)
    (rec_read c.args.collection.now c.args.row.now c.as_str.result.now c.as_str-2.result.now c.in-Some.id value ms c.requires c.as_str.ensures c.as_str-2.ensures.text c.in-Some.ensures.1 c.as_str-3.ensures is)
    c.rec_of_members.ensures
