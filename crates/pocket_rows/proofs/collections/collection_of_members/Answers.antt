use Rattle.pocket_rows.proofs.CollectionLemmas.{no_collection-rules, collection_is}
use Rattle.pocket_rows.proofs.collections.collection_of_members.Goals as goal

pub returns-in_default-3 : goal.returns-in_default-3
returns-in_default-3 c = no_collection-rules c.args.members.now (rw c.in_default-3.is at c.in_ok-rules.ensures)

pub returns : goal.returns
returns c =
    let fields = rw c.in-Some-2.is at c.in_ok-fields.ensures in
    let rules = rw c.in-Some-3.is at c.in_ok-rules.ensures in
    collection_is c.args.members.now _ c.requires.name c.in-Some.ensures fields rules
