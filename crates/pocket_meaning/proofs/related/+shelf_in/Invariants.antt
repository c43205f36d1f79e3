use Rattle.std.proofs.Common.{length}
use Rattle.pocket_meaning.proofs.related.+shelf_in.Given as goal

abbrev pub decreases-shelf_in : goal.decreases-shelf_in
decreases-shelf_in l = length l.shelves.now
