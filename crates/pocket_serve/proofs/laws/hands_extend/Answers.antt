use Rattle.pocket_serve.specs.Owners.{Shared, SharedFits}
use Rattle.pocket_serve.proofs.Links.{sessions_extend}
use Rattle.pocket_serve.proofs.laws.hands_extend.Goals as goal

pub returns : goal.returns
returns g c = λ opening. sessions_extend (SharedFits (g.M.Machine.fits opening)) (g.M.Machine.enters opening) Shared
