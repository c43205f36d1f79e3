use Rattle.std.proofs.Common.{sym, ◌∙◌, arith}
use Rattle.pocket_filter.proofs.Depths.{deep_here, deep_later}
use Rattle.pocket_filter.proofs.limits.is_too_deep.Goals as goal

pub returns-then-depth-gt-MAX_OPEN : goal.returns-then-depth-gt-MAX_OPEN
returns-then-depth-gt-MAX_OPEN c =
    sym (c.loop-token.invariant.rest ∙ deep_here c.args.tokens.now c.loop-token.token-index c.loop-token.depth c.open_parentheses-depth.result _ c.loop-token-test.true c.open_parentheses-depth.ensures (omega arith))

pub loop-token-preserved : goal.loop-token-preserved
loop-token-preserved c = record {
  within = omega arith;
  rest = c.loop-token.invariant.rest ∙ deep_later c.args.tokens.now c.loop-token.token-index c.loop-token.depth c.open_parentheses-depth.result _ c.loop-token-test.true c.open_parentheses-depth.ensures (omega arith);
}
