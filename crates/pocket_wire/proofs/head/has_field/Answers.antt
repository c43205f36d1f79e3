use Rattle.std.proofs.Common.{sym}
use Rattle.std.specs.Prelude.{map}
use Rattle.httparse.specs.Spans.{header_bytes}
use Rattle.pocket_wire.proofs.Fields.{empty, none_of, some_of}
use Rattle.pocket_wire.proofs.head.has_field.Goals as goal

pub returns-in-Some : goal.returns-in-Some
returns-in-Some c = sym (some_of c.args.name.now (map (header_bytes c.args.lines.now) c.args.fields.now) _ _ (c.in-Some.ensures.values empty))

pub returns-in-None : goal.returns-in-None
returns-in-None c = sym (none_of c.args.name.now (map (header_bytes c.args.lines.now) c.args.fields.now) c.in-None.ensures)
