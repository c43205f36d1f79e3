-- How the parser goes on, a token at a time. Only contracts inside this crate speak of it.
use Rattle.std.specs.Prelude.{Bool, List, [], ◌∷◌, Option, Some, None, option_map, option_and_then, reverse}
use Rattle.pocket_types.specs.declared.expr.Expr.{Expr}
use Rattle.pocket_types.specs.declared.expr.Expr.TheVariants as made
use Rattle.pocket_types.specs.declared.expr.Op.{Op}
use Rattle.pocket_types.specs.declared.expr.Operand.{Operand}
use Rattle.pocket_filter.specs.Operands.{operand}
use Rattle.pocket_filter.specs.Tokens.{Lexeme}
use Rattle.pocket_filter.specs.declared.parser.Group.{Group}
use Rattle.pocket_filter.specs.declared.parser.Want.{Want}
use Rattle.pocket_filter.specs.declared.parser.Want.TheVariants as want
use Rattle.pocket_filter.specs.declared.parser.Parser.{Parser}

-- what the parser holds, the innermost of the outer groups first
pub record State : Type 0 where
  pub outer : List Group
  pub group : Group
  pub want : Want

abbrev pub state_of : Parser → State
state_of p = record { outer = reverse p.outer.items; group = p.group; want = p.want }

-- a tree joined to what stands left of it
abbrev pub with_and : Option Expr → Expr → Expr
with_and None unit = unit
with_and (Some left) unit = made.And left unit

abbrev pub with_or : Option Expr → Expr → Expr
with_or None tree = tree
with_or (Some left) tree = made.Or left tree

-- a group in which nothing stands yet
abbrev pub no_group : Group
no_group = record { or = None; and = None }

abbrev pub start : State
start = record { outer = []; group = no_group; want = want.Unit }

-- a whole unit was read
abbrev pub with_unit : List Group → Group → Expr → State
with_unit outer group unit = record { outer = outer; group = record { or = group.or; and = None }; want = want.Join (with_and group.and unit) }

-- where a unit is wanted
abbrev pub feed_unit : List Group → Group → Lexeme → Option State
feed_unit outer group Lexeme.Open = Some (record { outer = group ∷ outer; group = no_group; want = want.Unit })
feed_unit outer group x = option_map (λ left. record { outer = outer; group = group; want = want.Op left }) (operand x)

-- where an operator is wanted
abbrev pub feed_op : List Group → Group → Operand → Lexeme → Option State
feed_op outer group left (Lexeme.Test any op) = Some (record { outer = outer; group = group; want = want.Right left any op })
feed_op outer group left _ = None

-- where the right operand is wanted
abbrev pub feed_right : List Group → Group → Operand → Bool → Op → Lexeme → Option State
feed_right outer group left any op x = option_map (λ right. with_unit outer group (made.Test left any op right)) (operand x)

-- at a closing parenthesis after a tree
abbrev pub feed_close : List Group → Expr → Option State
feed_close [] tree = None
feed_close (group ∷ outer) tree = Some (with_unit outer group tree)

-- where a join, a closing parenthesis or the end is wanted
abbrev pub feed_join : List Group → Group → Expr → Lexeme → Option State
feed_join outer group tree Lexeme.And = Some (record { outer = outer; group = record { or = group.or; and = Some tree }; want = want.Unit })
feed_join outer group tree Lexeme.Or = Some (record { outer = outer; group = record { or = Some (with_or group.or tree); and = None }; want = want.Unit })
feed_join outer group tree Lexeme.Close = feed_close outer (with_or group.or tree)
feed_join outer group tree _ = None

abbrev pub feed_want : List Group → Group → Want → Lexeme → Option State
feed_want outer group want.Unit x = feed_unit outer group x
feed_want outer group (want.Op left) x = feed_op outer group left x
feed_want outer group (want.Right left any op) x = feed_right outer group left any op x
feed_want outer group (want.Join tree) x = feed_join outer group tree x

-- the state after a token, where one may stand
unfoldable pub feed : State → Lexeme → Option State
feed s x = feed_want s.outer s.group s.want x

-- the state after tokens
abbrev pub feeds : State → List Lexeme → Option State
feeds s [] = Some s
feeds s (x ∷ xs) = option_and_then (λ t. feeds t xs) (feed s x)

abbrev pub finish_want : List Group → Group → Want → Option Expr
finish_want [] group (want.Join tree) = Some (with_or group.or tree)
finish_want _ _ _ = None

-- the tree, where the tokens may end
unfoldable pub finish : State → Option Expr
finish s = finish_want s.outer s.group s.want
