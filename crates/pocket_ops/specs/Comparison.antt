-- How values compare.
use Rattle.std.specs.Prelude.{Bool, not, [], Option, Some, None}
use Rattle.std.specs.declared.cmp.Ordering.{Ordering}
use Rattle.std.specs.declared.cmp.Ordering.TheVariants.{Equal}
use Rattle.std.specs.Cmp.Lexicographic.{slice_cmp}
use Rattle.std.specs.Ordering.{int_cmp, nat_cmp, bool_cmp, is_some_and, is_eq, is_lt, is_le, is_gt, is_ge}
use Rattle.pocket_types.specs.declared.expr.Op.{Op}
use Rattle.pocket_types.specs.declared.expr.Op.TheVariants as op
use Rattle.pocket_types.specs.declared.values.Value.{Value}
use Rattle.pocket_types.specs.declared.values.Value.TheVariants as value
use Rattle.pocket_ops.specs.Likeness.{value_text, is_like}

-- nothing compares as the empty text
abbrev pub or_empty : Value → Value
or_empty value.Nothing = value.Text []
or_empty v = v

-- how two values of one kind stand to each other: false is before true, texts are ordered by their bytes
abbrev pub order_of : Value → Value → Option Ordering
order_of value.Nothing value.Nothing = Some Equal
order_of (value.Num a) (value.Num b) = Some (int_cmp a b)
order_of (value.Flag a) (value.Flag b) = Some (bool_cmp a b)
order_of (value.Text a) (value.Text b) = Some (slice_cmp nat_cmp a b)
order_of _ _ = None

-- whether an operator is true of two values: what asks for an order is true only of values of one kind
abbrev pub is_met : Op → Value → Value → Bool
is_met op.Eq a b = is_some_and is_eq (order_of a b)
is_met op.Ne a b = not (is_some_and is_eq (order_of a b))
is_met op.Gt a b = is_some_and is_gt (order_of a b)
is_met op.Ge a b = is_some_and is_ge (order_of a b)
is_met op.Lt a b = is_some_and is_lt (order_of a b)
is_met op.Le a b = is_some_and is_le (order_of a b)
is_met op.Like a b = is_like (value_text a) (value_text b)
is_met op.Unlike a b = not (is_like (value_text a) (value_text b))

-- whether two values compare true
abbrev pub compare_values : Op → Value → Value → Bool
compare_values op a b = is_met op (or_empty a) (or_empty b)
