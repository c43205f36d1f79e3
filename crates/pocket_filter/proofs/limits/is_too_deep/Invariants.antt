use Rattle.std.proofs.Common.{◌≡◌, ◌≤◌, drop}
use Rattle.pocket_filter.specs.Parsed.{goes_too_deep}
use Rattle.pocket_filter.proofs.Depths.{all}
use Rattle.pocket_filter.proofs.limits.is_too_deep.Given as goal

-- what is open so far isn't too deep, and the rest tells whether the whole is
abbrev pub invariant-loop-token : goal.invariant-loop-token
invariant-loop-token l = record {
  within : l.depth ≤ 16;
  rest : goes_too_deep 0 (all l.tokens) ≡ goes_too_deep l.depth (all (drop l.token-index l.tokens));
}
