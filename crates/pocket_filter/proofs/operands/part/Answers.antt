use Rattle.std.proofs.Common.{lit<}
use Rattle.std.proofs.lemmas.Str.Pattern.{split_once_first}
use Rattle.pocket_filter.proofs.Parts.{part_plain}
use Rattle.pocket_filter.proofs.operands.part.Goals as goal

pub returns-in_ok-name-in-None : goal.returns-in_ok-name-in-None
returns-in_ok-name-in-None c =
    let written = c.args.written.now in
    let none = rw c.in-None.is at (split_once_first 58 written c.split_once.result c.split_once.ensures.cases (lit< tt)) in
    part_plain written c.in_ok-name-in-None.name c.in_ok-name-in-None.ensures none
