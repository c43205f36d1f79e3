use Rattle.std.proofs.Common.{◌≡◌, map}
use Rattle.std.specs.Prelude.{encode_utf8_all}
use Rattle.std.specs.String.{string_bytes}
use Rattle.pocket_api.specs.Works.{header_byte}
use Rattle.pocket_api.proofs.headers.header_name.Given as goal

abbrev pub invariant-loop-c : goal.invariant-loop-c
invariant-loop-c l = string_bytes l.out ≡ map header_byte (encode_utf8_all l.yielded)
