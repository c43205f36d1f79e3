use Rattle.pocket_serve.specs.Accepting.{finished_link}
use Rattle.pocket_serve.proofs.Links.{finished_as}
use Rattle.pocket_serve.proofs.hand.serve_link.Goals as goal

pub returns-clause-served : goal.returns-clause-served
returns-clause-served g c =
    let answered = c.answer_connection-pass.ensures in
    let is = answered.session in
    let now = c.answer_connection-pass.new.link in
    let ended = c.answer_connection-pass.result.1 in
    let left = g.A.Link.Source.left in
    let taken = g.A.Link.Sink.taken in
    let read_faults = g.A.Link.Source.faults in
    let write_faults = g.A.Link.Sink.faults in (
      record { calls = is.0; bytes = is.1; said = is.2; last = is.3; ended = ended },
      finished_link left taken read_faults write_faults now ended,
      is.5,
      is.6,
      finished_as left taken read_faults write_faults c.args.link now is.0 is.1 is.2 is.3 ended c.requires.fresh is.4 is.7 answered.source_fault answered.at_end,
      c.finish.ensures,
      is.8,
    )
