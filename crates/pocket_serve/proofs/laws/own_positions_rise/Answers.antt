use Rattle.pocket_serve.proofs.Rising.{session_rises}
use Rattle.pocket_serve.proofs.laws.own_positions_rise.Goals as goal

pub returns : goal.returns
returns g c = λ opening history seen calls bytes said last ended next is.
    session_rises (g.V.Service.fits opening) (g.V.Service.enters opening) history seen calls bytes said last ended next is
