use Rattle.pocket_serve.proofs.Extension.{session_extends}
use Rattle.pocket_serve.proofs.laws.sessions_extend.Goals as goal

pub returns : goal.returns
returns g c = λ opening history more seen calls bytes said last ended next is.
    session_extends (g.V.Service.fits opening) (g.V.Service.fits opening) (g.V.Service.enters opening) g.V.Service.follows g.V.Service.follows
    (λ l work reply fits. fits) (λ seen at follows. follows) history more seen calls bytes said last ended next is
