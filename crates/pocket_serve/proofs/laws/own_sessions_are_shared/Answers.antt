use Rattle.std.proofs.Common.{ℕ, arith}
use Rattle.pocket_serve.specs.Owners.{Alone, Shared}
use Rattle.pocket_serve.proofs.Extension.{session_extends}
use Rattle.pocket_serve.proofs.laws.own_sessions_are_shared.Goals as goal

more_places : (seen at : ℕ) → Alone seen at → Shared seen at
more_places seen at same = omega (arith, same)

pub returns : goal.returns
returns g c = λ opening history more seen calls bytes said last ended next is.
    session_extends (g.V.Service.fits opening) (g.V.Service.fits opening) (g.V.Service.enters opening) Alone Shared (λ l work reply fits. fits) more_places
    history more seen calls bytes said last ended next is
