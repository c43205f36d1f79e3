use Rattle.pocket_rows.proofs.RecLemmas.{rec_is}
use Rattle.pocket_rows.proofs.recs.rec_of_members.Goals as goal

pub returns : goal.returns
returns c =
    let h = rw c.in-Some-2.is at c.in_ok-cells.ensures in
    rec_is c.args.collection.now c.args.members.now c.as_slice-fields.result.now _ c.as_slice-fields.ensures c.requires.id c.in-Some.ensures c.in-Some-moment_under.ensures h
