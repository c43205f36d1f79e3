use Rattle.std.proofs.Common.{lit<}
use Rattle.std.proofs.lemmas.Str.Pattern.{strip_suffix_char}
use Rattle.pocket_read.proofs.TextLemmas.{before_is}
use Rattle.pocket_read.proofs.terms.before_space.Goals as goal

pub returns : goal.returns
returns c = before_is 32 c.args.text.now _ (strip_suffix_char 32 c.args.text.now _ c.strip_suffix.ensures.cases (lit< tt))
