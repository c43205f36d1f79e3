-- Paths by their first names, one path more at a time.
use Rattle.std.proofs.Common.{◌≡◌, Bool, true, false, cond, ◌||◌, List, [], ◌∷◌, ◌++◌, map, refl, sym, ap, ◌∙◌, subst, true≢false, ◌<◌, length, arith, Option, Some, None, append-nil, ℕ}
use Rattle.std.specs.Prelude.{filter_map, fold}
use Rattle.std.specs.BTreeMap.{insert_entry, is_at}
use Rattle.std.specs.Cmp.Lexicographic.{slice_cmp}
use Rattle.std.specs.List.{AllByRecursion, cons_option, list_any}
use Rattle.std.specs.List.Sorted.{IsStrictlySortedBy}
use Rattle.std.specs.Map.{lookup, remove_entry}
use Rattle.std.specs.Option.{option_map_or}
use Rattle.std.specs.Ordering.{is_eq, match_ordering, nat_cmp}
use Rattle.std.specs.Str.{bytes_eq}
use Rattle.std.specs.declared.cmp.Ordering.{Ordering}
use Rattle.std.specs.declared.cmp.Ordering.TheVariants.{Less, Equal, Greater}
use Rattle.std.proofs.lemmas.List.Elements.{filter_map-append}
use Rattle.std.proofs.lemmas.List.Sums.{fold-append}
use Rattle.pocket_types.specs.Order.{IsBefore}
use Rattle.pocket_types.proofs.OrderLemmas.{before_from_after, before_trans, equal_itself, same_from_equal}
use Rattle.pocket_tables.proofs.KeyLemmas.{key_false, key_same, key_true}
use Rattle.pocket_expand.specs.Names.{NamePath, behind_name, first_names, grouped, head_of, paths_behind, with_name}

abbrev Text : Type 0
Text = List ℕ

abbrev cmp : Text → Text → Ordering
cmp = slice_cmp nat_cmp

-- names with what a function gives of them
abbrev given : {X : Type 0} → (Text → X) → List Text → List (Text × X)
given f ns = map (λ n. (n, f n)) ns

-- ---- which names there are

abbrev has : Text → List Text → Bool
has name ns = list_any (is_at (cmp name)) ns

or_true : (a b : Bool) → b ≡ true → (a || b) ≡ true
or_true true b e = refl
or_true false b e = e

less_not_equal : (let o : Ordering = Less in o) ≡ Equal → ⊥
less_not_equal e = absurd (cc e)

greater_not_equal : (let o : Ordering = Greater in o) ≡ Equal → ⊥
greater_not_equal e = absurd (cc e)

-- the first of sorted names, and the others
sorted_parts : (n : Text) (ns : List Text) → IsStrictlySortedBy cmp (n ∷ ns) → AllByRecursion (λ m. cmp n m ≡ Less) ns × IsStrictlySortedBy cmp ns
unfolding IsStrictlySortedBy
sorted_parts n ns h = h

sorted_first : (n : Text) (ns : List Text) → AllByRecursion (λ m. cmp n m ≡ Less) ns → IsStrictlySortedBy cmp ns → IsStrictlySortedBy cmp (n ∷ ns)
unfolding IsStrictlySortedBy
sorted_first n ns all h = (all, h)

has_more : (name n : Text) (ns : List Text) → has name ns ≡ true → has name (with_name ns n) ≡ true
has_more name n [] h = absurd (true≢false (sym h))
has_more name n (m ∷ ns) h = by (cmp n m) (is_eq (cmp name m)) refl (has_more name n ns) h
  where
    by : (o : Ordering) (b : Bool) → is_eq (cmp name m) ≡ b → (has name ns ≡ true → has name (with_name ns n) ≡ true) → (b || has name ns) ≡ true
        → has name (match_ordering o (n ∷ m ∷ ns) (m ∷ ns) (m ∷ with_name ns n)) ≡ true
    by Less b e rest found = or_true (is_eq (cmp name n)) (has name (m ∷ ns)) (ap (λ t. t || has name ns) e ∙ found)
    by Equal b e rest found = ap (λ t. t || has name ns) e ∙ found
    by Greater true e rest found = ap (λ t. t || has name (with_name ns n)) e
    by Greater false e rest found = ap (λ t. t || has name (with_name ns n)) e ∙ rest found

has_itself : (n : Text) (ns : List Text) → has n (with_name ns n) ≡ true
has_itself n [] = ap (λ o. is_eq o || false) (equal_itself n)
has_itself n (m ∷ ns) = by (cmp n m) refl (has_itself n ns)
  where
    by : (o : Ordering) → cmp n m ≡ o → has n (with_name ns n) ≡ true → has n (match_ordering o (n ∷ m ∷ ns) (m ∷ ns) (m ∷ with_name ns n)) ≡ true
    by Less e rest = ap (λ t. is_eq t || has n (m ∷ ns)) (equal_itself n)
    by Equal e rest = ap (λ t. is_eq t || has n ns) e
    by Greater e rest = ap (λ t. is_eq t || has n (with_name ns n)) e ∙ rest

has_all : (name : Text) (ns more : List Text) → has name ns ≡ true → has name (fold with_name ns more) ≡ true
has_all name ns [] h = h
has_all name ns (n ∷ more) h = has_all name (with_name ns n) more (has_more name n ns h)

-- nothing stands behind a name with which no path begins
none_behind : (name : Text) (ns : List Text) (paths : List NamePath) → has name (fold with_name ns (filter_map head_of paths)) ≡ false → paths_behind paths name ≡ []
none_behind name ns [] h = refl
none_behind name ns ([] ∷ paths) h = none_behind name ns paths h
none_behind name ns ((n ∷ rest) ∷ paths) h = by (bytes_eq n name) refl (none_behind name (with_name ns n) paths h)
  where
    by : (b : Bool) → bytes_eq n name ≡ b → paths_behind paths name ≡ [] → cons_option (cond b (Some rest) None) (paths_behind paths name) ≡ []
    by true e later =
        let same : n ≡ name = key_same n name e in
        absurd (true≢false (sym (has_all name (with_name ns n) (filter_map head_of paths) (ap (λ t. has t (with_name ns n)) (sym same) ∙ has_itself n ns)) ∙ h))
    by false e later = later

-- what is looked up by a name
found_of : {X : Type 0} (f : Text → X) (name : Text) (ns : List Text) → lookup (is_at (cmp name)) (given f ns) ≡ cond (has name ns) (Some (f name)) None
found_of f name [] = refl
found_of f name (n ∷ ns) = by (cmp name n) refl (found_of f name ns)
  where
    by : (o : Ordering) → cmp name n ≡ o → lookup (is_at (cmp name)) (given f ns) ≡ cond (has name ns) (Some (f name)) None
        → cond (is_eq o) (Some (f n)) (lookup (is_at (cmp name)) (given f ns)) ≡ cond (is_eq o || has name ns) (Some (f name)) None
    by Less e rest = rest
    by Equal e rest = ap (λ t. Some (f t)) (sym (same_from_equal name n e))
    by Greater e rest = rest

-- what stood behind a name so far
pub behind_so_far : (name : Text) (paths : List NamePath) (o : Option (List NamePath)) → o ≡ lookup (is_at (cmp name)) (grouped paths)
    → option_map_or (λ p. p) o [] ≡ paths_behind paths name
behind_so_far name paths o e = ap (λ x. option_map_or (λ p. p) x []) (e ∙ found_of (paths_behind paths) name (first_names paths)) ∙ by (has name (first_names paths)) refl
  where
    by : (b : Bool) → has name (first_names paths) ≡ b → option_map_or (λ p. p) (cond b (Some (paths_behind paths name)) None) [] ≡ paths_behind paths name
    by true h = refl
    by false h = sym (none_behind name [] paths h)

-- ---- one name more

module _ {X : Type 0} (f g : Text → X) (name : Text) (others : (n : Text) → bytes_eq name n ≡ false → g n ≡ f n) where
  apart : (n : Text) → IsBefore name n → bytes_eq name n ≡ false
  apart n before = key_false name n (λ e. less_not_equal (sym before ∙ ap (cmp name) (sym e) ∙ equal_itself name))

  -- names behind this one are as they were
  later_same : (ns : List Text) → AllByRecursion (λ n. IsBefore name n) ns → given g ns ≡ given f ns
  later_same [] h = refl
  later_same (n ∷ ns) h = ap (λ v. (n, v) ∷ given g ns) (others n (apart n h.0)) ∙ ap (λ l. (n, f n) ∷ l) (later_same ns h.1)

  all_behind : (n : Text) (ns : List Text) → IsBefore name n → AllByRecursion (λ m. cmp n m ≡ Less) ns → AllByRecursion (λ m. IsBefore name m) ns
  all_behind n [] before h = tt
  all_behind n (m ∷ ns) before h = (before_trans name n m before h.0, all_behind n ns before h.1)

  not_there : (ns : List Text) → AllByRecursion (λ n. IsBefore name n) ns → remove_entry (is_at (cmp name)) (given f ns) ≡ given f ns
  not_there [] h = refl
  not_there (n ∷ ns) h =
      ap (λ o. cond (is_eq o) (given f ns) ((n, f n) ∷ remove_entry (is_at (cmp name)) (given f ns))) h.0 ∙ ap (λ l. (n, f n) ∷ l) (not_there ns h.1)

  put_first : (ns : List Text) → AllByRecursion (λ n. IsBefore name n) ns → insert_entry cmp (given f ns) name (g name) ≡ (name, g name) ∷ given f ns
  put_first [] h = refl
  put_first (n ∷ ns) h =
      ap (λ o. match_ordering o ((name, g name) ∷ given f (n ∷ ns)) ((n, g name) ∷ given f ns) ((n, f n) ∷ insert_entry cmp (given f ns) name (g name))) h.0

  -- an entry taken out and put in again
  pub put_again : (ns : List Text) → IsStrictlySortedBy cmp ns → insert_entry cmp (remove_entry (is_at (cmp name)) (given f ns)) name (g name) ≡ given g (with_name ns name)
  put_again [] h = refl
  put_again (n ∷ ns) h = by (cmp name n) refl (put_again ns (sorted_parts n ns h).1)
    where
      above : AllByRecursion (λ m. cmp n m ≡ Less) ns
      above = (sorted_parts n ns h).0

      tail : List (Text × X)
      tail = remove_entry (is_at (cmp name)) (given f ns)

      by : (o : Ordering) → cmp name n ≡ o → insert_entry cmp tail name (g name) ≡ given g (with_name ns name)
          → insert_entry cmp (cond (is_eq o) (given f ns) ((n, f n) ∷ tail)) name (g name) ≡ given g (match_ordering o (name ∷ n ∷ ns) (n ∷ ns) (n ∷ with_name ns name))
      by Less e rest =
          let behind : AllByRecursion (λ m. IsBefore name m) (n ∷ ns) = (e, all_behind n ns e above) in
          ap (λ o. match_ordering o ((name, g name) ∷ (n, f n) ∷ tail) ((n, g name) ∷ tail) ((n, f n) ∷ insert_entry cmp tail name (g name))) e
          ∙ ap (λ l. (name, g name) ∷ (n, f n) ∷ l) (not_there ns behind.1) ∙ ap (λ l. (name, g name) ∷ l) (sym (later_same (n ∷ ns) behind))
      by Equal e rest =
          let same : name ≡ n = same_from_equal name n e in
          let behind : AllByRecursion (λ m. IsBefore name m) ns = subst (λ t. AllByRecursion (λ m. cmp t m ≡ Less) ns) (sym same) above in
          put_first ns behind ∙ ap (λ t. (t, g t) ∷ given f ns) same ∙ ap (λ l. (n, g n) ∷ l) (sym (later_same ns behind))
      by Greater e rest =
          ap (λ o. match_ordering o ((name, g name) ∷ (n, f n) ∷ tail) ((n, g name) ∷ tail) ((n, f n) ∷ insert_entry cmp tail name (g name))) e
          ∙ ap (λ l. (n, f n) ∷ l) rest ∙ ap (λ v. (n, v) ∷ given g (with_name ns name)) (sym (others n (key_false name n (λ same. greater_not_equal (sym e ∙ ap (cmp name) (sym same) ∙ equal_itself name)))))

-- ---- the order of names

all_with : (m n : Text) (ns : List Text) → IsBefore m n → AllByRecursion (λ y. cmp m y ≡ Less) ns → AllByRecursion (λ y. cmp m y ≡ Less) (with_name ns n)
all_with m n [] before h = (before, tt)
all_with m n (x ∷ ns) before h = by (cmp n x) (all_with m n ns before h.1)
  where
    by : (o : Ordering) → AllByRecursion (λ y. cmp m y ≡ Less) (with_name ns n) → AllByRecursion (λ y. cmp m y ≡ Less) (match_ordering o (n ∷ x ∷ ns) (x ∷ ns) (x ∷ with_name ns n))
    by Less rest = (before, h)
    by Equal rest = h
    by Greater rest = (h.0, rest)

sorted_with : (n : Text) (ns : List Text) → IsStrictlySortedBy cmp ns → IsStrictlySortedBy cmp (with_name ns n)
sorted_with n [] h = sorted_first n [] tt h
sorted_with n (m ∷ ns) h = by (cmp n m) refl (sorted_with n ns (sorted_parts m ns h).1)
  where
    above : AllByRecursion (λ y. cmp m y ≡ Less) ns
    above = (sorted_parts m ns h).0

    behind : IsBefore n m → (xs : List Text) → AllByRecursion (λ y. cmp m y ≡ Less) xs → AllByRecursion (λ y. cmp n y ≡ Less) xs
    behind before [] all = tt
    behind before (x ∷ xs) all = (before_trans n m x before all.0, behind before xs all.1)

    by : (o : Ordering) → cmp n m ≡ o → IsStrictlySortedBy cmp (with_name ns n) → IsStrictlySortedBy cmp (match_ordering o (n ∷ m ∷ ns) (m ∷ ns) (m ∷ with_name ns n))
    by Less e rest = sorted_first n (m ∷ ns) (e, behind e ns above) h
    by Equal e rest = h
    by Greater e rest = sorted_first m (with_name ns n) (all_with m n ns (before_from_after n m e) above) rest

sorted_all : (ns more : List Text) → IsStrictlySortedBy cmp ns → IsStrictlySortedBy cmp (fold with_name ns more)
sorted_all ns [] h = h
sorted_all ns (n ∷ more) h = sorted_all (with_name ns n) more (sorted_with n ns h)

no_names_sorted : IsStrictlySortedBy cmp []
unfolding IsStrictlySortedBy
no_names_sorted = tt

-- one path more
pub one_path_more : (name : Text) (rest : NamePath) (paths : List NamePath) (entries : List (Text × List NamePath))
    → entries ≡ insert_entry cmp (remove_entry (is_at (cmp name)) (grouped paths)) name (paths_behind paths name ++ rest ∷ [])
    → entries ≡ grouped (paths ++ (name ∷ rest) ∷ [])
one_path_more name rest paths entries is =
    is ∙ ap (insert_entry cmp (remove_entry (is_at (cmp name)) (grouped paths)) name) (sym here)
    ∙ put_again (paths_behind paths) after name others (first_names paths) (sorted_all [] (filter_map head_of paths) no_names_sorted)
    ∙ ap (given after) (sym names)
  where
    after : Text → List NamePath
    after = paths_behind (paths ++ (name ∷ rest) ∷ [])

    at : (n : Text) → after n ≡ paths_behind paths n ++ cons_option (cond (bytes_eq name n) (Some rest) None) []
    at n = filter_map-append (behind_name n) paths ((name ∷ rest) ∷ [])

    here : after name ≡ paths_behind paths name ++ rest ∷ []
    here = at name ∙ ap (λ b. paths_behind paths name ++ cons_option (cond b (Some rest) None) []) (key_true name name refl)

    others : (n : Text) → bytes_eq name n ≡ false → after n ≡ paths_behind paths n
    others n e = at n ∙ ap (λ b. paths_behind paths n ++ cons_option (cond b (Some rest) None) []) e ∙ append-nil (paths_behind paths n)

    names : first_names (paths ++ (name ∷ rest) ∷ []) ≡ with_name (first_names paths) name
    names = ap (fold with_name []) (filter_map-append head_of paths ((name ∷ rest) ∷ [])) ∙ fold-append with_name [] (filter_map head_of paths) (name ∷ [])

-- a path without a name adds nothing
pub no_path_more : (paths : List NamePath) → grouped (paths ++ [] ∷ []) ≡ grouped paths
no_path_more paths = ap given_all names ∙ same (first_names paths)
  where
    after : Text → List NamePath
    after = paths_behind (paths ++ [] ∷ [])

    given_all : List Text → List (Text × List NamePath)
    given_all = given after

    names : first_names (paths ++ [] ∷ []) ≡ first_names paths
    names = ap (fold with_name []) (filter_map-append head_of paths ([] ∷ []) ∙ append-nil (filter_map head_of paths))

    same : (ns : List Text) → given after ns ≡ given (paths_behind paths) ns
    same [] = refl
    same (n ∷ ns) = ap (λ v. (n, v) ∷ given after ns) (filter_map-append (behind_name n) paths ([] ∷ []) ∙ append-nil (paths_behind paths n)) ∙ ap (λ l. (n, paths_behind paths n) ∷ l) (same ns)

-- a path more, as it is put among the others
pub path_put : (path : NamePath) (name key : Text) (rest : NamePath) (old left new : List (Text × List NamePath)) (so_far value : List NamePath) → path ≡ name ∷ rest
    → so_far ≡ option_map_or (λ p. p) (lookup (is_at (cmp name)) old) [] → left ≡ remove_entry (is_at (cmp name)) old → value ≡ so_far ++ rest ∷ [] → key ≡ name
    → new ≡ insert_entry cmp left key value → (paths : List NamePath) → old ≡ grouped paths → new ≡ grouped (paths ++ path ∷ [])
path_put path name key rest old left new so_far value path_is so_far_is left_is value_is key_is new_is paths old_is =
    let gone : left ≡ remove_entry (is_at (cmp name)) (grouped paths) = left_is ∙ ap (remove_entry (is_at (cmp name))) old_is in
    let behind : so_far ≡ paths_behind paths name = so_far_is ∙ behind_so_far name paths (lookup (is_at (cmp name)) old) (ap (lookup (is_at (cmp name))) old_is) in
    one_path_more name rest paths new
    (new_is ∙ ap (λ k. insert_entry cmp left k value) key_is ∙ ap (λ l. insert_entry cmp l name value) gone
    ∙ ap (insert_entry cmp (remove_entry (is_at (cmp name)) (grouped paths)) name) (value_is ∙ ap (λ s. s ++ rest ∷ []) behind))
    ∙ ap (λ p. grouped (paths ++ p ∷ [])) (sym path_is)

-- a path that has no name
pub nameless : (path : NamePath) (entries : List (Text × List NamePath)) → length path < 1 → (paths : List NamePath) → entries ≡ grouped paths → entries ≡ grouped (paths ++ path ∷ [])
nameless [] entries few paths is = is ∙ sym (no_path_more paths)
nameless (name ∷ path) entries few paths is = absurd (omega (arith, few))
