use Rattle.std.proofs.Common.{◌≡◌, drop, false}
use Rattle.pocket_filter.specs.Scanning.{closing}
use Rattle.pocket_filter.proofs.lexer.closing_quote.Given as goal

-- the rest gives what the whole gives
abbrev pub invariant-loop-at : goal.invariant-loop-at
invariant-loop-at l = closing l.quote l.escaped l.at (drop l.at l.bytes) ≡ closing l.quote false 0 l.bytes
