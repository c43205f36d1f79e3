use Rattle.std.proofs.Common.{◌≡◌, ◌≢◌, Ok, Err, map, ◌∙◌}
use Rattle.pocket_types.specs.declared.faults.FilterFault.TheVariants as fault
use Rattle.pocket_filter.specs.Parsed.{tree_from}
use Rattle.pocket_filter.specs.Parsing.{start, state_of}
use Rattle.pocket_filter.specs.Tokens.{placed}
use Rattle.pocket_filter.proofs.Refusals.{passed_on, tree_step}
use Rattle.pocket_filter.proofs.parser.tree_of.Goals as goal

pub loop-token-preserved : goal.loop-token-preserved
loop-token-preserved c =
    c.loop-token.invariant ∙ tree_step c.args.end c.args.tokens.now c.loop-token.token-index _ (state_of c.loop-token.parser) (Ok (state_of c.in_ok-parser.parser)) c.loop-token-test.true c.in_ok-parser.ensures

pub returns-in_err-parser : goal.returns-in_err-parser
returns-in_err-parser c =
    let f = c.in_err-parser.field-0.0 in
    passed_on c.from_residual.result f _ (λ e. e ≢ fault.Memory → tree_from start c.args.end (map placed c.args.tokens.now) ≡ Err e) c.from_residual.ensures.1
    (λ other. c.loop-token.invariant ∙ tree_step c.args.end c.args.tokens.now c.loop-token.token-index _ (state_of c.loop-token.parser) (Err f) c.loop-token-test.true (c.in_err-parser.ensures other))
