use Rattle.pocket_filter.specs.Parsed.{parsed}
use Rattle.pocket_filter.proofs.OneVerdict.{answered, known}
use Rattle.pocket_filter.proofs.ParsedLemmas.{parsed_is}
use Rattle.pocket_filter.proofs.reading.parse.Goals as goal

pub returns-clause-ok : goal.returns-clause-ok
returns-clause-ok c = let text = c.args.text.now in (known text c.read.result (parsed text) c.read.ensures (parsed_is text c.utf8.text)).0

pub returns-clause-fault : goal.returns-clause-fault
returns-clause-fault c = let text = c.args.text.now in (known text c.read.result (parsed text) c.read.ensures (parsed_is text c.utf8.text)).1

pub returns-clause-only : goal.returns-clause-only
returns-clause-only c verdict h = let text = c.args.text.now in answered text c.read.result (parsed text) verdict c.read.ensures (parsed_is text c.utf8.text) h
