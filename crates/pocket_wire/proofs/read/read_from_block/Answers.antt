use Rattle.std.proofs.Common.{[], take, ap, ◌∙◌}
use Rattle.pocket_wire.specs.Blocks.{after_empty_line}
use Rattle.pocket_wire.specs.Requests.{IsDecided}
use Rattle.pocket_wire.proofs.Bodies.{is_refused, has_status}
use Rattle.pocket_wire.proofs.Pieces.{reads_none}
use Rattle.pocket_wire.proofs.Readings.{consumes_none}
use Rattle.pocket_wire.proofs.read.read_from_block.Goals as goal

pub returns-in-Refused-clause-next : goal.returns-in-Refused-clause-next
returns-in-Refused-clause-next g c =
    let refused = is_refused c.args.bytes.now.items c.skip_empty_line.result.now c.args.end c.in-Refused.status c.in_ok-status.field-0 c.requires.0 c.requires.1
    (c.skip_empty_line.ensures ∙ ap (λ s. after_empty_line (take c.args.end s)) c.deref.ensures.value) c.in_ok-status.ensures c.in-Refused.is
    in (
      [],
      consumes_none (g.S.Source.left c.args.source.now),
      refused,
      reads_none g.S.Source.gives (λ bytes. ¬ (IsDecided bytes)) c.args.bytes.now.items c.args.source.now,
    )

pub returns-in-Refused-clause-status : goal.returns-in-Refused-clause-status
returns-in-Refused-clause-status g c =
    has_status c.args.bytes.now.items c.skip_empty_line.result.now c.args.end c.in-Refused.status c.in_ok-status.field-0 c.requires.0 c.requires.1
    (c.skip_empty_line.ensures ∙ ap (λ s. after_empty_line (take c.args.end s)) c.deref.ensures.value) c.in_ok-status.ensures c.in-Refused.is
