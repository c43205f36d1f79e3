use Rattle.std.proofs.Common.{◌≡◌, ◌++◌, drop, length}
use Rattle.std.specs.Str.{chars}
use Rattle.std.specs.String.{string_bytes}
use Rattle.pocket_filter.specs.Operands.{unescaped}
use Rattle.pocket_filter.specs.Scanning.{given}
use Rattle.pocket_filter.proofs.operands.unescape.Given as goal

-- what was given and what the rest gives are the whole
abbrev pub invariant-loop-c : goal.invariant-loop-c
invariant-loop-c l = string_bytes l.out ++ given l.quote l.escaped (drop (length l.yielded) (chars l.inside)) ≡ unescaped l.quote l.inside
