use Rattle.std.proofs.Common.{◌≡◌, IfOk, subst}
use Rattle.pocket_check.proofs.ReadingLemmas.{same_texts}
use Rattle.pocket_check.proofs.values.listed.Goals as goal

pub returns : goal.returns
returns c = subst (λ texts. IfOk c.texts_of.result (λ found. found ≡ texts)) (same_texts c.args.trees.now c.requires) c.texts_of.ensures
