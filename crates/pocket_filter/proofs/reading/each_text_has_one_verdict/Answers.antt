use Rattle.pocket_filter.specs.Parsed.{parsed}
use Rattle.pocket_filter.proofs.OneVerdict.{one_verdict}
use Rattle.pocket_filter.proofs.ParsedLemmas.{parsed_is}
use Rattle.pocket_filter.proofs.reading.each_text_has_one_verdict.Goals as goal

pub returns-clause-has : goal.returns-clause-has
returns-clause-has c = parsed_is

pub returns-clause-one : goal.returns-clause-one
returns-clause-one c text verdict utf8 h = one_verdict text (parsed text) verdict (parsed_is text utf8) h
