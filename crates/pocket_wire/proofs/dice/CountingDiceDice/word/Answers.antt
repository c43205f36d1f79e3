use Rattle.pocket_wire.proofs.Words.{adds_word}
use Rattle.pocket_wire.proofs.dice.CountingDiceDice.word.Goals as goal

pub returns-clause-adds : goal.returns-clause-adds
returns-clause-adds c = adds_word c.args.self.now.start c.args.self.now.calls _ c.saturating_add-self.ensures
