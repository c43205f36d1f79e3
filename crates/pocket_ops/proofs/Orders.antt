-- Values compare as equal only where they are one value.
use Rattle.std.proofs.Common.{◌≡◌, true, false, refl, ap, subst}
use Rattle.std.specs.declared.cmp.Ordering.{Ordering}
use Rattle.std.specs.declared.cmp.Ordering.TheVariants.{Less, Equal, Greater}
use Rattle.std.specs.Cmp.Lexicographic.{slice_cmp}
use Rattle.std.specs.Ordering.{nat_cmp, is_some_and, is_eq}
use Rattle.std.proofs.lemmas.Bool.Decides.{Decides-int_eq}
use Rattle.pocket_types.proofs.OrderLemmas.{equal_itself, same_from_equal}
use Rattle.pocket_types.specs.declared.values.Value.{Value}
use Rattle.pocket_types.specs.declared.values.Value.TheVariants as value
use Rattle.pocket_ops.specs.Comparison.{order_of}

is_eq_tells : (o : Ordering) → is_eq o ≡ true → o ≡ Equal
is_eq_tells Less h = cc
is_eq_tells Equal h = refl
is_eq_tells Greater h = cc

pub equal_is_same : (a b : Value) → is_some_and is_eq (order_of a b) ≡ true → a ≡ b
equal_is_same value.Nothing value.Nothing h = refl
equal_is_same (value.Num a) (value.Num b) h = ap value.Num ((Decides-int_eq a b).0 h)
equal_is_same (value.Flag true) (value.Flag true) h = refl
equal_is_same (value.Flag false) (value.Flag false) h = refl
equal_is_same (value.Text a) (value.Text b) h = ap value.Text (same_from_equal a b (is_eq_tells (slice_cmp nat_cmp a b) h))
equal_is_same a b h = cc

is_itself : (a : Value) → is_some_and is_eq (order_of a a) ≡ true
is_itself value.Nothing = refl
is_itself (value.Num a) = (Decides-int_eq a a).1 refl
is_itself (value.Flag true) = refl
is_itself (value.Flag false) = refl
is_itself (value.Text a) = ap is_eq (equal_itself a)

pub same_is_equal : (a b : Value) → a ≡ b → is_some_and is_eq (order_of a b) ≡ true
same_is_equal a b e = subst (λ (v : Value). is_some_and is_eq (order_of a v) ≡ true) e (is_itself a)
