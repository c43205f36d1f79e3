-- What the calls of connections do to a pass.
use Rattle.std.specs.Prelude.{◌≡◌, ℕ, List, ◌++◌, length}
use Rattle.pocket_api.specs.declared.reply.Reply.{Reply}
use Rattle.pocket_api.specs.declared.work.Work.{Work}
use Rattle.pocket_desk.specs.History.{BeginsWith, Holds, works}
use Rattle.pocket_desk.specs.Pass.{PassView}
use Rattle.pocket_desk.specs.declared.view.Call.{Call}
use Rattle.pocket_serve.specs.Entered.{AreEntered, StandBetween}

-- the pass came to be the other by these calls, none of which stands before what it had seen. Its own works grew by just
-- those that they entered, and so did these with the works of the passes that were joined to it
pub record HasCalled {M : Type 0} (enters : List Work → Work → Reply → Type 0) (p : PassView M Work Reply) (calls : List (Call Work Reply)) (q : PassView M Work Reply) : Type 0 where
  pub number : q.number ≡ p.number
  pub held : q.held ≡ p.held
  pub calls_are : q.calls ≡ p.calls ++ calls
  pub seen : BeginsWith q.seen p.seen
  pub positions : StandBetween (length p.seen) (length q.seen) calls
  pub entered : List Work
  pub are_entered : AreEntered enters (works q.seen) calls entered
  pub mine : q.mine ≡ p.mine ++ entered
  pub ours : q.ours ≡ p.ours ++ entered

-- it holds all numbers that the other held
abbrev pub StillHolds : {M : Type 0} → PassView M Work Reply → PassView M Work Reply → Type 0
StillHolds p q = (n : ℕ) → Holds p.held n → Holds q.held n
