use Rattle.std.proofs.lemmas.Str.Pattern.{strip_prefix_char}
use Rattle.pocket_read.proofs.TextLemmas.{behind_is}
use Rattle.pocket_read.proofs.terms.behind.Goals as goal

pub returns : goal.returns
returns c = behind_is c.args.first c.args.text.now _ (strip_prefix_char c.args.first c.args.text.now _ c.strip_prefix.ensures.cases c.requires)
