use Rattle.std.proofs.Common.{subst, sym}
use Rattle.std.proofs.lemmas.Result.{IfOk-weaker}
use Rattle.pocket_rows.proofs.CollectionLemmas.{no_collection-map, collection_read, CollectionFound, CollectionMayKeep}
use Rattle.pocket_rows.specs.Cells.{MayBeMap}
use Rattle.pocket_rows.proofs.collections.candidate.Goals as goal

pub returns-in_default-2 : goal.returns-in_default-2
returns-in_default-2 c = no_collection-map c.args.row.now c.as_str-2.result.now c.as_str-2.ensures (rw c.in_default-2.is at c.in_ok-members.ensures)

pub returns : goal.returns
returns c =
    let value = c.as_str-2.result.now in
    let ms = c.as_slice.result.now in
    let named = rw c.in-Some.is at c.in_ok-name.ensures in
    let h = rw c.in-Some-2.is at c.in_ok-members.ensures in
    let is = subst (λ x. MayBeMap value x) (sym c.as_slice.ensures) h in
    IfOk-weaker c.collection_of_members.result (CollectionFound c.in-Some.name ms) (CollectionMayKeep c.args.row.now)
    (collection_read c.args.row.now c.as_str.result.now c.in-Some.name value ms c.as_str.ensures named.1 c.as_str-2.ensures is)
    c.collection_of_members.ensures
