use Rattle.std.proofs.Common.{subst, sym}
use Rattle.pocket_core.specs.Opening.{IsOpened}
use Rattle.pocket_core.proofs.OpeningLemmas.{is_opened}
use Rattle.pocket_core.proofs.state.State.load.Goals as goal

pub returns-clause-opened : goal.returns-clause-opened
returns-clause-opened g c =
    subst (IsOpened (g.K.Committer.rows c.load.new.self) c.args.admin) (sym c.in_ok-state.ensures)
    (is_opened (g.K.Committer.rows c.load.new.self) c.in-Ok.rows c.in-Ok.ensures.told c.in_ok-stored.stored c.args.admin c.in_ok-stored.ensures.ok c.in_ok-stored.ensures.sound)
