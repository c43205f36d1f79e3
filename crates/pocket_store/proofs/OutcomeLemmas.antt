-- Rows stand for one state, or have one first bad row, and never both.
use Rattle.std.proofs.Common.{◌≡◌, ◌⊎◌, inl, inr, ℕ, ◌≤◌, List, [], ◌∷◌, ◌++◌, append_assoc, codes, filter, length, length-append, refl, sym, ◌∙◌, ap, subst, arith}
use Rattle.std.specs.Prelude.{Contains, sum_by}
use Rattle.std.proofs.lemmas.List.Elements.{filter-append}
use Rattle.std.proofs.lemmas.List.Sums.{sum_by-append}
use Rattle.pocket_types.specs.declared.records.Collection.{Collection}
use Rattle.pocket_keeper.specs.Texts.{collection_row}
use Rattle.pocket_keeper.specs.declared.rows.KeptRow.{KeptRow}
use Rattle.pocket_types.specs.Sound.{IsSoundCollection}
use Rattle.pocket_store.specs.SoundStates.{IsSoundStored}
use Rattle.pocket_store.specs.Stores.{AreGood, AreReadable, AreWithinLimits, IsFirstBadRow, IsGoodRow, IsStoreOf, begins}
use Rattle.pocket_store.specs.declared.stored.Stored.{Stored}
use Rattle.pocket_store.proofs.LawLemmas.{equal_states}
use Rattle.pocket_store.proofs.ListLemmas.{IsIn, all_in, in_back, in_from_contains}
use Rattle.pocket_store.proofs.RisingLemmas.{rising_same}

-- ---- the collections of rows are known

readable_into : (rows : List KeptRow) (cs ds : List Collection) → AreReadable rows cs → AreReadable rows ds → (c : Collection) → IsIn c cs → IsIn c ds
readable_into rows cs ds x y c i =
    in_from_contains ds c (y.whole c (all_in IsSoundCollection cs c x.sound i) (all_in (λ c. Contains rows (collection_row c)) cs c x.kept i))

readable_once : (rows : List KeptRow) (cs ds : List Collection) → AreReadable rows cs → AreReadable rows ds → cs ≡ ds
readable_once rows cs ds x y = rising_same (λ c. c.name) cs ds x.rising y.rising (readable_into rows cs ds x y) (readable_into rows ds cs y x)

good_in : (rows : List KeptRow) (cs ds : List Collection) (row : KeptRow) → AreReadable rows cs → AreReadable rows ds → IsGoodRow rows cs row → IsGoodRow rows ds row
good_in rows cs ds row x y good = subst (λ l. IsGoodRow rows l row) (readable_once rows cs ds x y) good

-- ---- rows in front of others pass no limit that all don't pass

fewer : (front : List ℕ) (xs ys : List KeptRow) → length (filter (begins front) xs) ≤ length (filter (begins front) (xs ++ ys))
fewer front xs ys =
    let parts = ap length (filter-append (begins front) xs ys) in
    omega (arith, parts, length-append (filter (begins front) xs) (filter (begins front) ys))

shorter : (front : List ℕ) (xs ys : List KeptRow) → sum_by (λ row. length row.value) (filter (begins front) xs) ≤ sum_by (λ row. length row.value) (filter (begins front) (xs ++ ys))
shorter front xs ys =
    let parts = ap (sum_by (λ row. length row.value)) (filter-append (begins front) xs ys) in
    omega (arith, parts, sum_by-append (λ row. length row.value) (filter (begins front) xs) (filter (begins front) ys))

within_front : (xs ys : List KeptRow) → AreWithinLimits (xs ++ ys) → AreWithinLimits xs
within_front xs ys w = record {
  collections = omega (arith, fewer (codes "c/") xs ys, w.collections);
  records = omega (arith, fewer (codes "r/") xs ys, w.records);
  store = omega (arith, shorter (codes "r/") xs ys, w.store);
  tokens = omega (arith, fewer (codes "t/") xs ys, w.tokens);
}

within_parts : (all xs ys : List KeptRow) (row : KeptRow) → all ≡ xs ++ row ∷ ys → AreWithinLimits all → AreWithinLimits (xs ++ row ∷ [])
within_parts all xs ys row e w = within_front (xs ++ row ∷ []) ys (subst AreWithinLimits (e ∙ sym (append_assoc xs (row ∷ []) ys)) w)

row_in : (all xs ys : List KeptRow) (row : KeptRow) → all ≡ xs ++ row ∷ ys → IsIn row all
row_in all xs ys row e = subst (λ l. IsIn row l) (sym e) (in_back xs (row ∷ ys) row (inl refl))

-- ---- good rows have no bad one

pub not_both : (rows : List KeptRow) (key : List ℕ) → AreGood rows → ¬ IsFirstBadRow rows key
not_both rows key good b =
    b.bad (
      good_in rows good.collections b.collections b.row good.readable b.readable (all_in (IsGoodRow rows good.collections) rows b.row good.good (row_in rows b.before b.later b.row b.parts)),
      within_parts rows b.before b.later b.row b.parts good.within,
    )

-- ---- two places of one list

-- the list begins with these items and this one
abbrev Begins : {X : Type 0} → List X → X → List X → Type 0
Begins {X} xs x ys = (rest : List X) × (ys ≡ xs ++ x ∷ rest)

begins_more : {X : Type 0} (z u : X) (xs : List X) (x : X) (ys : List X) → z ≡ u → Begins xs x ys → Begins (z ∷ xs) x (u ∷ ys)
begins_more z u xs x ys e (rest, q) = (rest, λ i. sym e i ∷ q i)

-- two items of a list are one, or the one stands in front of the other
one_or_front : {X : Type 0} (xs : List X) (x : X) (zs ys : List X) (y : X) (ws : List X) → xs ++ x ∷ zs ≡ ys ++ y ∷ ws → (x ≡ y) ⊎ (Begins xs x ys ⊎ Begins ys y xs)
one_or_front [] x zs [] y ws e = inl cc
one_or_front [] x zs (v ∷ ys) y ws e = let first : v ≡ x = cc in inr (inl (ys, ap (λ z. z ∷ ys) first))
one_or_front (u ∷ xs) x zs [] y ws e = let first : u ≡ y = cc in inr (inr (xs, ap (λ z. z ∷ xs) first))
one_or_front (u ∷ xs) x zs (v ∷ ys) y ws e =
    let first : u ≡ v = cc in
    let rest : xs ++ x ∷ zs ≡ ys ++ y ∷ ws = cc in
    elim (one_or_front xs x zs ys y ws rest) [
      | inl same ↦ inl same
      | inr front ↦ elim front [
        | inl h ↦ inr (inl (begins_more u v xs x ys first h))
        | inr h ↦ inr (inr (begins_more v u ys y xs (sym first) h))
      ]
    ]

-- ---- the first bad row is one

-- no bad row stands in front of another
not_before : (rows : List KeptRow) (k l : List ℕ) (a : IsFirstBadRow rows k) (b : IsFirstBadRow rows l) → ¬ Begins a.before a.row b.before
not_before rows k l a b (rest, e) =
    a.bad (
      good_in rows b.collections a.collections a.row b.readable a.readable (all_in (IsGoodRow rows b.collections) b.before a.row b.good (row_in b.before a.before rest a.row e)),
      within_parts b.before a.before rest a.row e b.within,
    )

pub bad_once : (rows : List KeptRow) (k l : List ℕ) → IsFirstBadRow rows k → IsFirstBadRow rows l → k ≡ l
bad_once rows k l a b =
    elim (one_or_front a.before a.row a.later b.before b.row b.later (sym a.parts ∙ b.parts)) [
      | inl same ↦ a.named ∙ ap (λ row. row.key) same ∙ sym b.named
      | inr front ↦ elim front [
        | inl h ↦ absurd (not_before rows k l a b h)
        | inr h ↦ absurd (not_before rows l k b a h)
      ]
    ]

-- ---- the state is one

pub state_once : (rows : List KeptRow) (a b : Stored) → IsStoreOf rows a → IsStoreOf rows b → IsSoundStored a → IsSoundStored b → a ≡ b
state_once rows a b x y sound other = equal_states a b sound other (λ row. (λ h. (y.same row).0 ((x.same row).1 h), λ h. (x.same row).0 ((y.same row).1 h)))
