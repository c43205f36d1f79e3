use Rattle.std.proofs.Common.{◌∙◌, ap}
use Rattle.std.specs.Option.{option_copied}
use Rattle.pocket_types.specs.Json.{quoted}
use Rattle.pocket_tables.specs.Fronts.{then_behind}
use Rattle.pocket_tables.proofs.FrontLemmas.{string_done, byte_more}
use Rattle.pocket_tables.proofs.fronts.behind_string.Goals as goal

pub loop-byte-preserved : goal.loop-byte-preserved
loop-byte-preserved c =
    byte_more c.as_bytes-byte-items.result.now c.loop-byte.byte-index (option_copied c.args.text) (option_copied c.loop-byte.rest) (option_copied c.behind_byte-rest.result)
    c.loop-byte-test.true c.loop-byte.invariant c.behind_byte-rest.ensures

pub returns : goal.returns
returns c =
    string_done c.as_bytes-byte-items.result.now c.loop-byte.byte-index (option_copied c.args.text) (option_copied c.loop-byte.rest) (option_copied c.behind.result)
    c.loop-byte-test.false c.loop-byte.invariant c.behind.ensures
    ∙ ap (λ s. then_behind (quoted s) (option_copied c.args.text)) c.as_bytes-byte-items.ensures.value
