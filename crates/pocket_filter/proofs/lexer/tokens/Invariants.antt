use Rattle.std.proofs.Common.{◌≡◌, ◌≤◌, ◌-◌, length, map}
use denote.Text.{Utf8}
use denote.Shadow.{shadow}
use Rattle.pocket_filter.specs.Parsed.{tokens_from}
use Rattle.pocket_filter.specs.Tokens.{placed}
use Rattle.pocket_filter.proofs.Readings.{all_of}
use Rattle.pocket_filter.proofs.lexer.tokens.Given as goal

-- what was found and what the rest gives are what the whole gives
abbrev pub invariant-loop-rest : goal.invariant-loop-rest
invariant-loop-rest l = shadow (Utf8 l.rest) × record {
  within : length l.rest ≤ length l.text;
  goes_on : tokens_from 0 0 l.text ≡ all_of (map placed l.found.items) (tokens_from 0 (length l.text - length l.rest) l.rest);
}

abbrev pub decreases-loop-rest : goal.decreases-loop-rest
decreases-loop-rest l = length l.rest
