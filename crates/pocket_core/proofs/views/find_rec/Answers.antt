use Rattle.std.proofs.Common.{sym}
use Rattle.pocket_core.proofs.ViewLemmas.{no_rec}
use Rattle.pocket_core.proofs.views.find_rec.Goals as goal

pub returns-in-None-clause-rec : goal.returns-in-None-clause-rec
returns-in-None-clause-rec g c = sym (no_rec c.args.tables.now.world c.args.collection.now c.args.id.now c.requires c.in-None.ensures)
