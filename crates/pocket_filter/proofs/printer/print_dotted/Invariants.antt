use Rattle.std.proofs.Common.{◌≡◌, ◌++◌, take}
use Rattle.std.specs.String.{string_bytes}
use Rattle.pocket_filter.specs.Lexing.{dotted}
use Rattle.pocket_filter.proofs.printer.print_dotted.Given as goal

abbrev pub invariant-loop-part : goal.invariant-loop-part
invariant-loop-part l = string_bytes l.out ≡ string_bytes l.initial.out ++ dotted (take l.part-index l.parts)
