-- Judging rows one by one.
use Rattle.std.proofs.Common.{◌≡◌, inl, inr, ℕ, suc, ◌+◌, ◌<◌, ◌≤◌, List, [], ◌∷◌, ◌++◌, length, get_or, take, drop, sym, ◌∙◌, ap, subst, All}
use Rattle.std.proofs.lemmas.List.{take_more}
use Rattle.std.proofs.lemmas.List.Elements.{All-push}
use Rattle.pocket_types.specs.declared.records.Collection.{Collection}
use Rattle.pocket_keeper.specs.declared.rows.KeptRow.{KeptRow}
use Rattle.pocket_store.specs.Finding.{Holds, NamesRow}
use Rattle.pocket_store.specs.Limits.{AreCounts, AreJudged}
use Rattle.pocket_store.specs.Stores.{AreReadable, AreWithinLimits, IsFaultOf, IsFirstBadRow, IsGoodRow}
use Rattle.pocket_store.specs.declared.limits.Counts.{Counts}
use Rattle.pocket_store.specs.declared.stored.StoreFault.{StoreFault}
use Rattle.pocket_store.specs.declared.stored.StoreFault.TheVariants.{BadStore, Memory}
use Rattle.pocket_store.specs.declared.stores.Found.{Found}
use Rattle.pocket_store.specs.declared.stores.Found.TheVariants as found
use Rattle.pocket_store.proofs.ListLemmas.{contains_from_in, in_from_get, parts_at, take_all}

-- what a row holds makes it good
pub good_from_holds : (rows : List KeptRow) (cs : List Collection) (row : KeptRow) (f : Found) → Holds rows cs row f → IsGoodRow rows cs row
good_from_holds rows cs row found.Collection h = inl h
good_from_holds rows cs row (found.Rec at rec) h =
    inr (inl (h.collection, rec, contains_from_in cs h.collection (in_from_get cs at h.collection h.place), h.good))
good_from_holds rows cs row (found.Token t) h = inr (inr (t, h))

module _ (rows : List KeptRow) (cs : List Collection) (k : ℕ) (row : KeptRow) (within : k < length rows) (is : row ≡ get_or rows k row) where
  pub row_more : take (k + 1) rows ≡ take k rows ++ row ∷ []
  row_more = take_more rows k row within ∙ ap (λ r. take k rows ++ r ∷ []) (sym is)

  pub good_more : (f : Found) → Holds rows cs row f → All (IsGoodRow rows cs) (take k rows) → All (IsGoodRow rows cs) (take (k + 1) rows)
  good_more f h good =
      subst (λ l. All (IsGoodRow rows cs) l) (sym row_more) (All-push (IsGoodRow rows cs) (take k rows) row good (good_from_holds rows cs row f h))

  pub counts_more : (counts : Counts) → AreCounts (take k rows ++ row ∷ []) counts → AreCounts (take (k + 1) rows) counts
  counts_more counts h = subst (λ l. AreCounts l counts) (sym row_more) h

  pub first_bad : (key : List ℕ) → key ≡ row.key → AreReadable rows cs → All (IsGoodRow rows cs) (take k rows) → AreWithinLimits (take k rows)
      → ¬ (IsGoodRow rows cs row × AreWithinLimits (take k rows ++ row ∷ [])) → IsFirstBadRow rows key
  first_bad key e readable good small bad = record {
    collections = cs;
    readable = readable;
    before = take k rows;
    row = row;
    later = drop (suc k) rows;
    parts = parts_at rows k row within ∙ ap (λ q. take k rows ++ q ∷ drop (suc k) rows) (sym is);
    named = e;
    good = good;
    within = small;
    bad = bad;
  }

-- a fault that names a bad row is that of the rows
pub named_fault : (rows : List KeptRow) (row : KeptRow) (fault : StoreFault) → NamesRow row fault
    → ((key : List ℕ) → key ≡ row.key → IsFirstBadRow rows key) → IsFaultOf rows fault
named_fault rows row (BadStore key) named bad = bad key named
named_fault rows row Memory named bad = tt

-- all rows were judged
pub all_judged : (rows : List KeptRow) (cs : List Collection) (k : ℕ) (counts : Counts) → length rows ≤ k → All (IsGoodRow rows cs) (take k rows)
    → AreCounts (take k rows) counts → AreJudged rows cs
all_judged rows cs k counts h good small =
    let e = take_all rows k h in
    record {
      good = subst (λ l. All (IsGoodRow rows cs) l) e good;
      within = subst AreWithinLimits e small.within;
    }
