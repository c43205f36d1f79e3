use Rattle.std.proofs.Common.{decimal, codes}
use Rattle.pocket_wire.specs.Phrases.{line_end}
use Rattle.pocket_api.proofs.FramingLemmas.{body_headers_are, three_pieces}
use Rattle.pocket_api.proofs.framing.push_body_headers.Goals as goal

pub returns : goal.returns
returns c =
    let headers = body_headers_are c.args.status c.args.size c.if-status-eq204.false in
    rw headers
    (three_pieces _ (codes "Content-Type: application/json\r\nContent-Length: ") (decimal c.args.size) line_end _ _ _ c.in_ok-push_str.ensures.bytes
    c.in_ok-write.ensures.bytes c.in_ok-push_str-2.ensures.bytes)
