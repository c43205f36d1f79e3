-- The order of keys is a total order.
use Rattle.std.proofs.Common.{◌≡◌, ℕ, ◌∷◌, [], List, Bool, true, false, ℤ, pos, drop, refl, sym, subst, nat_cmp, int_cmp, Ordering, Less, Equal, Greater}
use Rattle.std.specs.Cmp.{IsTotalOrder, IsStrictWeakOrder, bool_cmp_total}
use Rattle.std.specs.Cmp.Derive.{point_total}
use Rattle.std.specs.Cmp.Lexicographic.{slice_cmp}
use Rattle.std.specs.Ordering.{bool_cmp, ordering_then}
use Rattle.std.proofs.lemmas.Cmp.{back_total, int_cmp_total, nat_cmp_total, nat_list_cmp_total, on_total, then_total}
use Rattle.std.proofs.lemmas.List.MinMax.{ranks_by}
use Rattle.pocket_types.specs.declared.values.Value.{Value}
use Rattle.pocket_types.specs.declared.values.Value.TheVariants as value
use Rattle.pocket_read.specs.Sorting.{directed, first_value, key_cmp, rank, stands_before, value_cmp, values_cmp}
use Rattle.pocket_read.specs.declared.terms.SortTerm.{SortTerm}

-- what a value is of each kind
abbrev flag_in : Value → Bool
flag_in (value.Flag b) = b
flag_in _ = false

abbrev number_in : Value → ℤ
number_in (value.Num n) = n
number_in _ = pos 0

abbrev text_in : Value → List ℕ
text_in (value.Text t) = t
text_in _ = []

-- the order of values, part by part
abbrev by_parts : Value → Value → Ordering
by_parts a b = ordering_then (nat_cmp (rank a) (rank b)) (ordering_then (bool_cmp (flag_in a) (flag_in b)) (ordering_then (int_cmp (number_in a) (number_in b)) (slice_cmp nat_cmp (text_in a) (text_in b))))

by_parts_total : IsTotalOrder by_parts
by_parts_total = then_total (on_total rank nat_cmp_total) (then_total (on_total flag_in bool_cmp_total) (then_total (on_total number_in int_cmp_total) (on_total text_in nat_list_cmp_total)))

then_equal : (o : Ordering) → o ≡ ordering_then o Equal
then_equal Less = refl
then_equal Equal = refl
then_equal Greater = refl

same_order : (a b : Value) → by_parts a b ≡ value_cmp a b
same_order value.Nothing value.Nothing = refl
same_order value.Nothing (value.Flag b) = refl
same_order value.Nothing (value.Num b) = refl
same_order value.Nothing (value.Text b) = refl
same_order (value.Flag a) value.Nothing = refl
same_order (value.Flag a) (value.Flag b) = sym (then_equal (bool_cmp a b))
same_order (value.Flag a) (value.Num b) = refl
same_order (value.Flag a) (value.Text b) = refl
same_order (value.Num a) value.Nothing = refl
same_order (value.Num a) (value.Flag b) = refl
same_order (value.Num a) (value.Num b) = sym (then_equal (int_cmp a b))
same_order (value.Num a) (value.Text b) = refl
same_order (value.Text a) value.Nothing = refl
same_order (value.Text a) (value.Flag b) = refl
same_order (value.Text a) (value.Num b) = refl
same_order (value.Text a) (value.Text b) = refl

pub value_total : IsTotalOrder value_cmp
value_total = subst IsTotalOrder (λ i a b. same_order a b i) by_parts_total

directed_total : {K : Type 0} (R : K → K → Ordering) → IsTotalOrder R → (falling : Bool) → IsTotalOrder (λ x y. directed falling (R x y))
directed_total R o true = subst IsTotalOrder (λ i x y. o.antisymm y x i) (back_total o)
directed_total R o false = o

values_total : (terms : List SortTerm) → IsTotalOrder (values_cmp terms)
values_total [] = point_total
values_total (t ∷ terms) = then_total (directed_total _ (on_total first_value value_total) t.falling) (on_total (drop 1) (values_total terms))

pub key_total : (terms : List SortTerm) → IsTotalOrder (key_cmp terms)
key_total terms = then_total (on_total (λ k. k.values) (values_total terms)) (on_total (λ k. k.id) nat_list_cmp_total)

pub key_order : (terms : List SortTerm) → IsStrictWeakOrder (stands_before terms)
key_order terms = ranks_by (key_total terms) (λ k. k)
