-- Sums over all records, and what a delta takes from them and adds to them.
use Rattle.std.proofs.Common.{◌≡◌, ℕ, ◌+◌, ◌≤◌, ◌<◌, List, [], ◌∷◌, Bool, true, false, refl, sym, ◌∙◌, ap, subst, map, filter, take, length, get_or, All, Option, Some, None, arith}
use Rattle.std.specs.Prelude.{cond, IfSome, IsTrue, ◌&&◌, nat_le, nat_lt}
use Rattle.std.specs.List.{sum_by}
use Rattle.std.specs.Option.{option_map_or}
use Rattle.std.specs.Str.{bytes_eq}
use Rattle.std.proofs.lemmas.Bool.{cond-true, cond-false, or_parts, true≢false}
use Rattle.std.proofs.lemmas.Bool.Decides.{nat_tests}
use Rattle.std.proofs.lemmas.List.{take_all}
use Rattle.std.proofs.lemmas.List.Elements.{All-cons, All-head, All-nil, All-tail, All-weaker}
use Rattle.std.proofs.lemmas.List.Sums.{sum_by-cons, sum_by_more}
use Rattle.pocket_types.specs.Json.{printed}
use Rattle.pocket_types.specs.Kinds.{is_multiple, most_of}
use Rattle.pocket_types.specs.Maps.{map_jv, put}
use Rattle.pocket_types.specs.Order.{IsBefore, Rises}
use Rattle.pocket_types.specs.World.{rec_of}
use Rattle.pocket_types.specs.declared.deltas.RecChange.{RecChange}
use Rattle.pocket_types.specs.declared.json.Jv.{Jv}
use Rattle.pocket_types.specs.declared.records.Cell.{Cell}
use Rattle.pocket_types.specs.declared.records.Cell.TheVariants as cell
use Rattle.pocket_types.specs.declared.records.Collection.{Collection}
use Rattle.pocket_types.specs.declared.records.Field.{Field}
use Rattle.pocket_types.specs.declared.records.Kind.{Kind}
use Rattle.pocket_types.specs.declared.records.Rec.{Rec}
use Rattle.pocket_types.proofs.OrderLemmas.{rises_first, rises_nil, rises_rest}
use Rattle.pocket_ops.specs.Cells.{texts_jv}
use Rattle.pocket_ops.specs.Lengths.{held, row_len}
use Rattle.pocket_ops.specs.Trees.{cell_jv, date_members, one_jv, put_cells}
use Rattle.pocket_tables.specs.declared.totals.Totals.{Totals}
use Rattle.pocket_tables.specs.Deltas.{rec_change, rec_changes}
use Rattle.pocket_tables.specs.Keyed.{AtDistinctKeys, Change, change_to, find_key, is_touched, put_all, put_at}
use Rattle.pocket_tables.specs.Tallies.{Tell, Weight, all_weigh, changed_weigh, one_each, standing_weighs}
use Rattle.pocket_tables.specs.Worlds.{id_of, name_of, shape_of, shapes_of}
use Rattle.pocket_tables.proofs.ChangeLemmas.{BearKeys, find_key-change_to, find_key-untouched, rises-put_all}
use Rattle.pocket_tables.proofs.KeyLemmas.{not_found_above, key_differs_back, key_true, differs_below, find_key-put_at, first_found, found_holds, found_bears_key, rises-put_at, key_same, look_ups_tell, sum-put_at}

-- ---- totals of a list, one item after the other

pub told_more : {T : Type 0} (f g : T → ℕ) (xs : List T) (i : ℕ) (x : T) (so_far one more : Totals) → i < length xs → x ≡ get_or xs i x
    → Tell so_far (sum_by f (take i xs)) (sum_by g (take i xs)) → Tell one (f x) (g x)
    → more.records ≡ held (so_far.records + one.records) → more.bytes ≡ held (so_far.bytes + one.bytes)
    → Tell more (sum_by f (take (i + 1) xs)) (sum_by g (take (i + 1) xs))
told_more f g xs i x so_far one more within is told this records bytes =
    let count = sum_by_more f xs i x within in
    let long = sum_by_more g xs i x within in
    let same = ap f is in
    let alike = ap g is in
    let a = told.records in
    let b = told.bytes in
    let c = this.records in
    let d = this.bytes in
    record { records = omega (arith, count, same, a, c, records); bytes = omega (arith, long, alike, b, d, bytes) }

pub told_all : {T : Type 0} (f g : T → ℕ) (xs : List T) (i : ℕ) (totals : Totals) → length xs ≤ i
    → Tell totals (sum_by f (take i xs)) (sum_by g (take i xs)) → Tell totals (sum_by f xs) (sum_by g xs)
told_all f g xs i totals all told = subst (λ l. Tell totals (sum_by f l) (sum_by g l)) (take_all i xs all) told

-- ---- sums that agree

pub sum-same : {T : Type 0} (f g : T → ℕ) (xs : List T) → All (λ x. f x ≡ g x) xs → sum_by f xs ≡ sum_by g xs
sum-same f g [] h = refl
sum-same f g (x ∷ xs) h =
    let first = All-head (λ x. f x ≡ g x) x xs h in
    let rest = sum-same f g xs (All-tail (λ x. f x ≡ g x) x xs h) in
    let a = sum_by-cons f x xs in
    let b = sum_by-cons g x xs in
    omega (arith, first, rest, a, b)

pub sum-map : {S T : Type 0} (f : T → ℕ) (g : S → T) (xs : List S) → sum_by f (map g xs) ≡ sum_by (λ x. f (g x)) xs
sum-map f g [] = refl
sum-map f g (x ∷ xs) =
    let rest = sum-map f g xs in
    let a = sum_by-cons f (g x) (map g xs) in
    let b = sum_by-cons (λ x. f (g x)) x xs in
    omega (arith, rest, a, b)

module _ {T : Type 0} (key : T → List ℕ) where
  -- what stands at a key is worth
  abbrev worth : (T → ℕ) → List ℕ → List T → ℕ
  worth f k xs = option_map_or f (find_key key k xs) 0

  nothing_sum : (f : T → ℕ) (xs : List T) → Rises key xs → ((k : List ℕ) → worth f k xs ≡ 0) → sum_by f xs ≡ 0
  nothing_sum f [] rising h = refl
  nothing_sum f (x ∷ xs) rising h =
      let first = sym (ap (λ o. option_map_or f o 0) (first_found key x xs)) ∙ h (key x) in
      let rest = nothing_sum f xs (rises_rest key x xs rising) (λ k. by k (bytes_eq (key x) k) refl) in
      let e = sum_by-cons f x xs in
      omega (arith, first, rest, e)
    where
      by : (k : List ℕ) (b : Bool) → bytes_eq (key x) k ≡ b → worth f k xs ≡ 0
      by k true e = ap (λ o. option_map_or f o 0) (not_found_above key k xs (subst (λ u. All (λ z. IsBefore u (key z)) xs) (key_same (key x) k e) (rises_first key x xs rising)))
      by k false e = sym (ap (λ o. option_map_or f o 0) (cond-false (bytes_eq (key x) k) (Some x) (find_key key k xs) e)) ∙ h k

  -- lists that rise and in which each key is worth the same have the same sum
  pub sums_agree : (f : T → ℕ) (xs ys : List T) → Rises key xs → Rises key ys → ((k : List ℕ) → worth f k xs ≡ worth f k ys) → sum_by f xs ≡ sum_by f ys
  sums_agree f [] ys hx hy h = sym (nothing_sum f ys hy (λ k. sym (h k)))
  sums_agree f (x ∷ xs) ys hx hy h =
      let others = put_at key (key x) None ys in
      let rest = sums_agree f xs others (rises_rest key x xs hx) (rises-put_at key (key x) None ys hy tt) (λ k. by k (bytes_eq (key x) k) refl) in
      let cut = sum-put_at key f (key x) None ys hy in
      let here = sym (h (key x)) ∙ ap (λ o. option_map_or f o 0) (first_found key x xs) in
      let whole = sum_by-cons f x xs in
      omega (arith, rest, cut, here, whole)
    where
      in_others : (k : List ℕ) → find_key key k (put_at key (key x) None ys) ≡ cond (bytes_eq (key x) k) None (find_key key k ys)
      in_others k = find_key-put_at key k (key x) None ys tt

      by : (k : List ℕ) (b : Bool) → bytes_eq (key x) k ≡ b → worth f k xs ≡ worth f k (put_at key (key x) None ys)
      by k true e =
          ap (λ o. option_map_or f o 0) (not_found_above key k xs (subst (λ u. All (λ z. IsBefore u (key z)) xs) (key_same (key x) k e) (rises_first key x xs hx)))
          ∙ sym (ap (λ o. option_map_or f o 0) (in_others k ∙ cond-true (bytes_eq (key x) k) None (find_key key k ys) e))
      by k false e =
          sym (ap (λ o. option_map_or f o 0) (cond-false (bytes_eq (key x) k) (Some x) (find_key key k xs) e)) ∙ h k
          ∙ sym (ap (λ o. option_map_or f o 0) (in_others k ∙ cond-false (bytes_eq (key x) k) None (find_key key k ys) e))

-- ---- one record cut

-- a family of records, with the record of a name and an id cut
abbrev pub without : (List ℕ → List Rec) → RecChange → List ℕ → List Rec
without recs c name = cond (bytes_eq c.collection name) (put_at id_of c.id None (recs name)) (recs name)

module _ (weight : Weight) where
  pub weigh_same : (recs others : List ℕ → List Rec) → ((name : List ℕ) → recs name ≡ others name) → (cs : List Collection) → all_weigh weight cs recs ≡ all_weigh weight cs others
  weigh_same recs others same cs = λ i. all_weigh weight cs (λ name. same name i)

  elsewhere : (cs : List Collection) (recs : List ℕ → List Rec) (c : RecChange) → All (λ k. bytes_eq c.collection k.name ≡ false) cs
      → all_weigh weight cs (without recs c) ≡ all_weigh weight cs recs
  elsewhere cs recs c h =
      sum-same (λ k. sum_by (weight k) (without recs c k.name)) (λ k. sum_by (weight k) (recs k.name)) cs
      (All-weaker (λ k. bytes_eq c.collection k.name ≡ false) (λ k. sum_by (weight k) (without recs c k.name) ≡ sum_by (weight k) (recs k.name))
      (λ k e. ap (sum_by (weight k)) (cond-false (bytes_eq c.collection k.name) (put_at id_of c.id None (recs k.name)) (recs k.name) e)) cs h)

  one_cut : (cs : List Collection) (recs : List ℕ → List Rec) (c : RecChange) → Rises name_of cs → ((name : List ℕ) → Rises id_of (recs name))
      → all_weigh weight cs (without recs c) + standing_weighs weight cs recs c ≡ all_weigh weight cs recs
  one_cut [] recs c rising ids = refl
  one_cut (k ∷ cs) recs c rising ids =
      by (bytes_eq k.name c.collection) refl (one_cut cs recs c (rises_rest name_of k cs rising) ids)
    where
      parts : (f : List ℕ → List Rec) → all_weigh weight (k ∷ cs) f ≡ sum_by (weight k) (f k.name) + all_weigh weight cs f
      parts f = sum_by-cons (λ c. sum_by (weight c) (f c.name)) k cs

      by : (b : Bool) → bytes_eq k.name c.collection ≡ b → all_weigh weight cs (without recs c) + standing_weighs weight cs recs c ≡ all_weigh weight cs recs
          → all_weigh weight (k ∷ cs) (without recs c) + option_map_or (λ c1. option_map_or (weight c1) (rec_of c.id (recs c.collection)) 0) (cond b (Some k) (find_key name_of c.collection cs)) 0 ≡ all_weigh weight (k ∷ cs) recs
      by true e rest =
          let here : k.name ≡ c.collection = key_same k.name c.collection e in
          let others = elsewhere cs recs c (All-weaker (λ z. IsBefore k.name z.name) (λ z. bytes_eq c.collection z.name ≡ false)
          (λ z b. subst (λ u. bytes_eq u z.name ≡ false) here (differs_below k.name z.name b)) cs (rises_first name_of k cs rising)) in
          let cut = sum-put_at id_of (weight k) c.id None (recs k.name) (ids k.name) in
          let first = ap (sum_by (weight k)) (cond-true (bytes_eq c.collection k.name) (put_at id_of c.id None (recs k.name)) (recs k.name) (key_true c.collection k.name (sym here))) in
          let stood = ap (λ n. option_map_or (weight k) (rec_of c.id (recs n)) 0) here in
          let a = parts recs in
          let b = parts (without recs c) in
          omega (arith, others, cut, first, stood, a, b)
      by false e rest =
          let first = ap (sum_by (weight k)) (cond-false (bytes_eq c.collection k.name) (put_at id_of c.id None (recs k.name)) (recs k.name) (key_differs_back k.name c.collection e)) in
          let a = parts recs in
          let b = parts (without recs c) in
          omega (arith, rest, first, a, b)

-- ---- all records cut where changes are

-- the changes of the same keys that only cut
abbrev pub cuts : {T : Type 0} → List (Change T) → List (Change T)
cuts changes = map (change_to (λ k. None)) changes

-- a family of records, without those that stand where changes are
abbrev pub without_all : (List ℕ → List Rec) → List RecChange → List ℕ → List Rec
without_all recs changes name = put_all id_of (cuts (rec_changes changes name)) (recs name)

without_more : (recs : List ℕ → List Rec) (c : RecChange) (rest : List RecChange) (name : List ℕ) → without_all recs (c ∷ rest) name ≡ without_all (without recs c) rest name
without_more recs c rest name = by (bytes_eq c.collection name)
  where
    others : List RecChange
    others = filter (λ c. bytes_eq c.collection name) rest

    by : (b : Bool) → put_all id_of (cuts (map rec_change (cond b (c ∷ others) others))) (recs name) ≡ put_all id_of (cuts (map rec_change others)) (cond b (put_at id_of c.id None (recs name)) (recs name))
    by true = refl
    by false = refl

abbrev AreDistinct : List RecChange → Type 0
AreDistinct changes = (name : List ℕ) → AtDistinctKeys (rec_changes changes name)

abbrev StandsElsewhere : RecChange → RecChange → Type 0
StandsElsewhere c other = bytes_eq c.collection other.collection ≡ true → bytes_eq c.id other.id ≡ false

distinct_rest : (c : RecChange) (rest : List RecChange) → AreDistinct (c ∷ rest) → AreDistinct rest
distinct_rest c rest h name = by (bytes_eq c.collection name) (h name)
  where
    others : List RecChange
    others = filter (λ c. bytes_eq c.collection name) rest

    by : (b : Bool) → AtDistinctKeys (map rec_change (cond b (c ∷ others) others)) → AtDistinctKeys (map rec_change others)
    by true h = h.1
    by false h = h

others_elsewhere : (c : RecChange) (rest : List RecChange) → is_touched c.id (rec_changes rest c.collection) ≡ false → All (StandsElsewhere c) rest
others_elsewhere c [] h = All-nil (StandsElsewhere c)
others_elsewhere c (other ∷ rest) h = by (bytes_eq other.collection c.collection) refl h (others_elsewhere c rest)
  where
    others : List RecChange
    others = filter (λ x. bytes_eq x.collection c.collection) rest

    by : (b : Bool) → bytes_eq other.collection c.collection ≡ b → is_touched c.id (map rec_change (cond b (other ∷ others) others)) ≡ false
        → (is_touched c.id (map rec_change others) ≡ false → All (StandsElsewhere c) rest) → All (StandsElsewhere c) (other ∷ rest)
    by true e h more =
        let parts = or_parts (bytes_eq other.id c.id) (is_touched c.id (map rec_change others)) h in
        All-cons (StandsElsewhere c) other rest (λ same. key_differs_back other.id c.id parts.0) (more parts.1)
    by false e h more = All-cons (StandsElsewhere c) other rest (λ same. absurd (true≢false (sym same ∙ key_differs_back other.collection c.collection e))) (more h)

first_elsewhere : (c : RecChange) (rest : List RecChange) → AreDistinct (c ∷ rest) → All (StandsElsewhere c) rest
first_elsewhere c rest h = by (bytes_eq c.collection c.collection) (key_true c.collection c.collection refl) (h c.collection)
  where
    others : List RecChange
    others = filter (λ x. bytes_eq x.collection c.collection) rest

    by : (b : Bool) → b ≡ true → AtDistinctKeys (map rec_change (cond b (c ∷ others) others)) → All (StandsElsewhere c) rest
    by true e h = others_elsewhere c rest h.0
    by false e h = absurd (true≢false (sym e))

ids_without : (recs : List ℕ → List Rec) (c : RecChange) → ((name : List ℕ) → Rises id_of (recs name)) → (name : List ℕ) → Rises id_of (without recs c name)
ids_without recs c ids name = by (bytes_eq c.collection name)
  where
    by : (b : Bool) → Rises id_of (cond b (put_at id_of c.id None (recs name)) (recs name))
    by true = rises-put_at id_of c.id None (recs name) (ids name) tt
    by false = ids name

module _ (weight : Weight) where
  standing_same : (cs : List Collection) (recs : List ℕ → List Rec) (c other : RecChange) → StandsElsewhere c other
      → standing_weighs weight cs (without recs c) other ≡ standing_weighs weight cs recs other
  standing_same cs recs c other apart =
      ap (λ o. option_map_or (λ k. option_map_or (weight k) o 0) (find_key name_of other.collection cs) 0) (by (bytes_eq c.collection other.collection) refl)
    where
      there : List Rec
      there = recs other.collection

      by : (b : Bool) → bytes_eq c.collection other.collection ≡ b → rec_of other.id (cond b (put_at id_of c.id None there) there) ≡ rec_of other.id there
      by true e = find_key-put_at id_of other.id c.id None there tt ∙ cond-false (bytes_eq c.id other.id) None (rec_of other.id there) (apart e)
      by false e = refl

  -- all that weigh are those that stand where changes are, and those that stay without them
  pub all_cut : (cs : List Collection) (recs : List ℕ → List Rec) (changes : List RecChange) → Rises name_of cs → ((name : List ℕ) → Rises id_of (recs name)) → AreDistinct changes
      → all_weigh weight cs (without_all recs changes) + changed_weigh weight cs recs changes ≡ all_weigh weight cs recs
  all_cut cs recs [] rising ids distinct = omega arith
  all_cut cs recs (c ∷ rest) rising ids distinct =
      let next = all_cut cs (without recs c) rest rising (ids_without recs c ids) (distinct_rest c rest distinct) in
      let one = one_cut weight cs recs c rising ids in
      let same = sum-same (standing_weighs weight cs (without recs c)) (standing_weighs weight cs recs) rest
      (All-weaker (StandsElsewhere c) (λ other. standing_weighs weight cs (without recs c) other ≡ standing_weighs weight cs recs other)
      (standing_same cs recs c) rest (first_elsewhere c rest distinct)) in
      let head = sum_by-cons (standing_weighs weight cs recs) c rest in
      let stay = weigh_same weight (without_all recs (c ∷ rest)) (without_all (without recs c) rest) (without_more recs c rest) cs in
      omega (arith, next, one, same, head, stay)

-- ---- what is left is the same before and after

module _ {T : Type 0} (key : T → List ℕ) where
  named_cuts : (changes : List (Change T)) → BearKeys key (cuts changes)
  named_cuts [] = All-nil (λ c. IfSome c.1 (λ x. key x ≡ c.0))
  named_cuts (c ∷ changes) = All-cons (λ c. IfSome c.1 (λ x. key x ≡ c.0)) (c.0, None) (cuts changes) tt (named_cuts changes)

  rises_cuts : (changes : List (Change T)) (xs : List T) → Rises key xs → Rises key (put_all key (cuts changes) xs)
  rises_cuts changes xs rising = rises-put_all key (cuts changes) xs rising (named_cuts changes)

  find_cuts : (j : List ℕ) (changes : List (Change T)) (xs : List T) → find_key key j (put_all key (cuts changes) xs) ≡ cond (is_touched j changes) None (find_key key j xs)
  find_cuts j changes xs = find_key-change_to key (λ k. None) (λ k. tt) j changes xs

  -- what was put where changes are is cut as what stood there
  pub cuts_after : (changes : List (Change T)) (xs : List T) → Rises key xs → BearKeys key changes → put_all key (cuts changes) (put_all key changes xs) ≡ put_all key (cuts changes) xs
  cuts_after changes xs rising named =
      look_ups_tell key (put_all key (cuts changes) (put_all key changes xs)) (put_all key (cuts changes) xs)
      (rises_cuts changes (put_all key changes xs) (rises-put_all key changes xs rising named)) (rises_cuts changes xs rising)
      (λ j. find_cuts j changes (put_all key changes xs) ∙ by j (is_touched j changes) refl ∙ sym (find_cuts j changes xs))
    where
      by : (j : List ℕ) (b : Bool) → is_touched j changes ≡ b → cond b None (find_key key j (put_all key changes xs)) ≡ cond b None (find_key key j xs)
      by j true e = refl
      by j false e = find_key-untouched key j changes xs named e

  -- the inverse changes cut the same
  pub cuts_back : (f : List ℕ → Option T) (changes : List (Change T)) → cuts (map (change_to f) changes) ≡ cuts changes
  cuts_back f [] = refl
  cuts_back f (c ∷ changes) = ap (λ l. (c.0, None) ∷ l) (cuts_back f changes)

  pub nothing_left : (changes : List (Change T)) (xs : List T) → Rises key xs → All (λ x. IsTrue (is_touched (key x) changes)) xs → put_all key (cuts changes) xs ≡ []
  nothing_left changes xs rising all =
      look_ups_tell key (put_all key (cuts changes) xs) [] (rises_cuts changes xs rising) (rises_nil key)
      (λ j. find_cuts j changes xs ∙ by j (is_touched j changes) refl (find_key key j xs) (found_bears_key key j xs) (found_holds key (λ x. IsTrue (is_touched (key x) changes)) j xs all))
    where
      by : (j : List ℕ) (b : Bool) → is_touched j changes ≡ b → (o : Option T) → IfSome o (λ x. key x ≡ j) → IfSome o (λ x. IsTrue (is_touched (key x) changes)) → cond b None o ≡ None
      by j true e o named touched = refl
      by j false e None named touched = refl
      by j false e (Some x) named touched = absurd (true≢false (sym touched ∙ ap (λ k. is_touched k changes) named ∙ e))

-- ---- weights that depend on the shape of the collection alone

abbrev pub GoesByShape : Weight → Type 0
GoesByShape weight = (a b : Collection) → shapes_of a ≡ shapes_of b → (r : Rec) → weight a r ≡ weight b r

pub one_each_goes : GoesByShape one_each
one_each_goes a b same r = refl

same_bound : (n m : ℕ) → nat_lt 1 n ≡ nat_lt 1 m → nat_le n 1 ≡ nat_le m 1
same_bound n m e = grind (arith, nat_tests, e)

same_jv : (k l : Kind) (c : Cell) → is_multiple k ≡ is_multiple l → cell_jv k c ≡ cell_jv l c
same_jv k l (cell.Text t) e = refl
same_jv k l (cell.Num n) e = refl
same_jv k l (cell.Flag b) e = refl
same_jv k l (cell.Date d) e = refl
same_jv k l (cell.Picks items) e = ap (λ b. cond b (one_jv items) (texts_jv items)) (same_bound (most_of k) (most_of l) e)
same_jv k l (cell.Json tree) e = refl
same_jv k l (cell.Refs ids) e = ap (λ b. cond b (one_jv ids) (texts_jv ids)) (same_bound (most_of k) (most_of l) e)

-- hidden fields stand in rows as others do
shown : (f : Field) (a b : List (List ℕ × Jv)) → cond (f.hidden && false) a b ≡ b
shown f a b = by f.hidden
  where
    by : (h : Bool) → cond (h && false) a b ≡ b
    by true = refl
    by false = refl

same_members : (fs gs : List Field) (cells : List Cell) (members : List (List ℕ × Jv)) → map shape_of fs ≡ map shape_of gs → put_cells true fs cells members ≡ put_cells true gs cells members
same_members [] [] cells members e = refl
same_members [] (g ∷ gs) cells members e = cc
same_members (f ∷ fs) [] cells members e = cc
same_members (f ∷ fs) (g ∷ gs) [] members e = refl
same_members (f ∷ fs) (g ∷ gs) (c ∷ cells) members e =
    let first : shape_of f ≡ shape_of g = cc in
    let rest : map shape_of fs ≡ map shape_of gs = cc in
    let name = ap (λ s. s.name) first in
    let jv = same_jv f.kind g.kind c (ap (λ s. s.several) first) in
    ap (put_cells true fs cells) (shown f members (put f.name (cell_jv f.kind c) members) ∙ (λ i. put (name i) (jv i) members) ∙ sym (shown g members (put g.name (cell_jv g.kind c) members)))
    ∙ same_members fs gs cells (cond (g.hidden && false) members (put g.name (cell_jv g.kind c) members)) rest

pub row_len_goes : GoesByShape row_len
row_len_goes a b same r = ap (λ members. length (printed (map_jv members))) (same_members a.fields b.fields r.cells (date_members r) same)
