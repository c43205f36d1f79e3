use Rattle.std.proofs.Common.{length}
use Rattle.pocket_api.proofs.routes.+fits.Given as goal

abbrev pub decreases-fits : goal.decreases-fits
decreases-fits l = length l.path.now
