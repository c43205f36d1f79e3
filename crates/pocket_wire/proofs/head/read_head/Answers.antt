use Rattle.pocket_wire.proofs.Headers.{names_text}
use Rattle.pocket_wire.proofs.head.read_head.Goals as goal

pub judged-requires-clause-names : goal.judged-requires-clause-names
judged-requires-clause-names c =
    let found = c.in-Some.ensures.found in
    names_text c.args.lines.now _ found.0.fields found.1.0.fields found.2.fields
