-- Changes of collections, one after the other.
use Rattle.std.proofs.Common.{◌≡◌, ℕ, ◌+◌, ◌≤◌, List, [], ◌∷◌, ◌++◌, refl, sym, ◌∙◌, ap, subst, length, All, arith}
use Rattle.std.specs.Prelude.{IfSome}
use Rattle.pocket_types.specs.Order.{Rises}
use Rattle.pocket_types.specs.declared.records.Collection.{Collection}
use Rattle.pocket_types.specs.declared.deltas.ShelfChange.{ShelfChange}
use Rattle.pocket_tables.specs.Deltas.{shelf_changes}
use Rattle.pocket_tables.specs.Keyed.{AtDistinctKeys, find_key, places_wanted, put_at, put_all}
use Rattle.pocket_tables.specs.Worlds.{name_of}
use Rattle.pocket_tables.proofs.KeyLemmas.{length-put_at}
use Rattle.pocket_tables.proofs.ChangeLemmas.{not_at_earlier, find_key-untouched, rises-put_all, put_all-append}
use Rattle.pocket_tables.proofs.WorldLemmas.{shelves_bear_keys}

-- where some changes are made, and the rest has its places
pub record ShelvesSoFar (before now : List Collection) (done rest : List ShelfChange) (places : ℕ) : Type 0 where
  pub items : now ≡ put_all name_of (shelf_changes done) before
  pub room : length now + places_wanted (shelf_changes rest) ≤ places

shelf_changes-append : (front back : List ShelfChange) → shelf_changes (front ++ back) ≡ shelf_changes front ++ shelf_changes back
shelf_changes-append [] back = refl
shelf_changes-append (c ∷ front) back = ap (λ t. (c.name, c.after) ∷ t) (shelf_changes-append front back)

pub shelves_rise_so_far : (before now : List Collection) (done rest : List ShelfChange) (places : ℕ) → Rises name_of before
    → All (λ c. IfSome c.after (λ k. k.name ≡ c.name)) done → ShelvesSoFar before now done rest places → Rises name_of now
shelves_rise_so_far before now done rest places rising named s =
    subst (λ l. Rises name_of l) (sym s.items) (rises-put_all name_of (shelf_changes done) before rising (shelves_bear_keys done named))

pub shelves_next : (before now next : List Collection) (done rest : List ShelfChange) (c : ShelfChange) (places : ℕ) → Rises name_of before
    → All (λ c. IfSome c.after (λ k. k.name ≡ c.name)) done → ShelvesSoFar before now done (c ∷ rest) places
    → next ≡ put_at name_of c.name c.after now → ShelvesSoFar before next (done ++ c ∷ []) rest places
shelves_next before now next done rest c places rising named s is =
    let n = length-put_at name_of c.name c.after now (shelves_rise_so_far before now done (c ∷ rest) places rising named s) in
    let l = ap length is in
    let r = s.room in
    record {
      items = is ∙ ap (put_at name_of c.name c.after) s.items
          ∙ sym (ap (λ l. put_all name_of l before) (shelf_changes-append done (c ∷ []))
          ∙ put_all-append name_of (shelf_changes done) ((c.name, c.after) ∷ []) before);
      room = omega (arith, n, l, r);
    }

-- what stands where the next change is has stood there from the beginning
pub collection_stood_before : (before now : List Collection) (done rest : List ShelfChange) (c : ShelfChange) (places : ℕ)
    → All (λ c. IfSome c.after (λ k. k.name ≡ c.name)) done → AtDistinctKeys (shelf_changes (done ++ c ∷ rest)) → ShelvesSoFar before now done (c ∷ rest) places
    → find_key name_of c.name now ≡ find_key name_of c.name before
collection_stood_before before now done rest c places named distinct s =
    ap (find_key name_of c.name) s.items
    ∙ find_key-untouched name_of c.name (shelf_changes done) before (shelves_bear_keys done named)
    (not_at_earlier (shelf_changes done) (c.name, c.after) (shelf_changes rest) (subst AtDistinctKeys (shelf_changes-append done (c ∷ rest)) distinct))
