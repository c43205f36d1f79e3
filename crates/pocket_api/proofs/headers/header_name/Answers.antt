use Rattle.std.proofs.Common.{arith}
use Rattle.std.proofs.lemmas.Grind.{common_steps}
use Rattle.std.proofs.lemmas.Iterator.{YieldsList-from_chars}
use Rattle.std.proofs.lemmas.Iterator.Consumers.{YieldsList-end}
use Rattle.std.proofs.lemmas.Str.{encodes-append, encodes-chars}
use Rattle.pocket_types.proofs.PrintLemmas.{map_same}
use Rattle.pocket_api.proofs.HeaderLemmas.{encode_header}
use Rattle.pocket_api.proofs.headers.header_name.Goals as goal

pub loop-c-preserved : goal.loop-c-preserved
loop-c-preserved c = grind (arith, common_steps, encodes-append, encode_header)

pub returns : goal.returns
returns c =
    let t = YieldsList-end (YieldsList-from_chars c.args.name.now c.utf8.name cc) c.loop-c.yielded _ c.loop-c.yielded_by _ _ c.in-None.is c.next.ensures.steps in
    let e = encodes-chars c.args.name.now c.utf8.name in
    let m = map_same c.loop-c.yielded in
    grind (arith, common_steps)
