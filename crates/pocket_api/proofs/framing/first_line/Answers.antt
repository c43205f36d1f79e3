use Rattle.pocket_api.proofs.FramingLemmas.{status_line_is}
use Rattle.pocket_api.proofs.framing.first_line.Goals as goal

pub returns : goal.returns
returns c = status_line_is c.args.status c.status_phrase-phrase.result.now _ c.status_phrase-phrase.ensures c.in_ok-line.ensures.ok
