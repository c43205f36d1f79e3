use Rattle.std.proofs.Common.{◌≡◌, ◌+◌, drop, false}
use Rattle.pocket_filter.specs.Scanning.{path_len}
use Rattle.pocket_filter.proofs.lexer.path_end.Given as goal

-- what was passed and what follows are the whole
abbrev pub invariant-loop-at : goal.invariant-loop-at
invariant-loop-at l = l.at + path_len l.suffixed (drop l.at l.bytes) ≡ path_len false l.bytes
