use Rattle.std.proofs.Common.{ap, ◌∙◌}
use Rattle.pocket_resolve.specs.Fields.{collection_named}
use Rattle.pocket_gate.proofs.ShownLemmas.{named_again}
use Rattle.pocket_read.proofs.listing.list.Goals as goal

pub list_of-requires-clause-there : goal.list_of-requires-clause-there
list_of-requires-clause-there g c = named_again _ _ _ (c.in-Some.ensures ∙ ap (λ cs. collection_named cs c.args.collection.now) c.collections.ensures.collections)
