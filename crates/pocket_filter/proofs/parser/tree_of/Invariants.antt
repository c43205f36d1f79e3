use Rattle.std.proofs.Common.{◌≡◌, map, drop}
use Rattle.pocket_filter.specs.Parsed.{tree_from}
use Rattle.pocket_filter.specs.Parsing.{start, state_of}
use Rattle.pocket_filter.specs.Tokens.{placed}
use Rattle.pocket_filter.proofs.parser.tree_of.Given as goal

-- the rest gives what the whole gives
abbrev pub invariant-loop-token : goal.invariant-loop-token
invariant-loop-token l = tree_from start l.end (map placed l.tokens) ≡ tree_from (state_of l.parser) l.end (map placed (drop l.token-index l.tokens))
