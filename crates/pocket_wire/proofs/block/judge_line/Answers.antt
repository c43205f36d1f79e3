use Rattle.std.proofs.Common.{◌∙◌, sym, ltb-true, ltb-false}
use Rattle.pocket_wire.specs.Blocks.{line_feeds}
use Rattle.pocket_wire.proofs.Blocks.{part_on}
use Rattle.pocket_wire.proofs.Found.{too_many, by_length, few_bytes}
use Rattle.pocket_wire.proofs.block.judge_line.Goals as goal

pub returns-then-has_many_lines : goal.returns-then-has_many_lines
returns-then-has_many_lines c =
    too_many c.args.bytes.now (part_on c.args.bytes.now c.requires.some c.requires.going)
    (ltb-true 66 (line_feeds c.args.bytes.now) (sym c.has_many_lines.ensures ∙ c.if-has_many_lines.true))

pub returns : goal.returns
returns c =
    by_length c.args.bytes.now c.judge_length.result c.judge_length.ensures (part_on c.args.bytes.now c.requires.some c.requires.going)
    (sym c.has_end.ensures ∙ c.if-has_end.false)
    (ltb-false 66 (line_feeds c.args.bytes.now) (sym c.has_many_lines.ensures ∙ c.if-has_many_lines.false))
    (few_bytes c.args.bytes.now c.requires.some c.requires.going)
