use Rattle.std.proofs.Common.{◌≡◌, map, take}
use Rattle.pocket_api.specs.Works.{header_pair}
use Rattle.pocket_api.proofs.headers.headers_of.Given as goal

abbrev pub invariant-loop-header : goal.invariant-loop-header
invariant-loop-header l = l.pairs ≡ map header_pair (take l.header-index l.headers)
