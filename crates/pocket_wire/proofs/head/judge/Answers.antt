use Rattle.std.proofs.Common.{◌∷◌, [], ◌∙◌, ap}
use Rattle.std.specs.Prelude.{map, nat_eq}
use Rattle.std.specs.List.{starts_with}
use Rattle.httparse.specs.Spans.{header_bytes}
use Rattle.pocket_wire.specs.Heads.{body_length, method_of}
use Rattle.pocket_wire.proofs.Verdicts.{verdict_is}
use Rattle.pocket_wire.proofs.head.judge.Goals as goal

pub returns : goal.returns
returns c =
    verdict_is _ _ _ c.starts_with-is_path.result c.has_field-is_coded.result c.method_named-method.result c.verdict.result
    (c.starts_with-is_path.ensures.value ∙ ap (λ t. starts_with nat_eq t (47 ∷ [])) c.of.ensures)
    c.has_field-is_coded.ensures
    (c.method_named-method.ensures ∙ ap method_of c.of-2.ensures)
    (c.verdict.ensures (body_length (map (header_bytes c.args.lines.now) c.args.fields.now)) c.length_of_body-length.ensures)
