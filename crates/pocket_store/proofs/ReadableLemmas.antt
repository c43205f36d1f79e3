-- The collections that can be read among rows, and the rows of their records and tokens.
use Rattle.std.proofs.Common.{◌≡◌, ◌≢◌, inl, inr, ℕ, zero, suc, ◌+◌, ◌<◌, ◌≤◌, List, [], ◌∷◌, ◌++◌, Bool, true, false, Some, length, get_or, take, drop, refl, sym, ◌∙◌, ap, subst, arith, All, codes}
use Rattle.std.specs.Prelude.{Contains, MatchBool, slice_get, IsTrue}
use Rattle.std.proofs.lemmas.List.{take_more}
use Rattle.std.proofs.lemmas.List.Elements.{All-push, All-weaker}
use Rattle.pocket_types.specs.Names.{is_name}
use Rattle.pocket_types.specs.Order.{IsBefore, Rises}
use Rattle.pocket_types.proofs.OrderLemmas.{before_from_append, rises_nil, rises_push, rises_across}
use Rattle.pocket_types.specs.declared.names.Name.{Name}
use Rattle.pocket_types.specs.declared.records.Collection.{Collection}
use Rattle.pocket_types.specs.declared.records.Rec.{Rec}
use Rattle.pocket_keeper.specs.Texts.{HasNoByte}
use Rattle.pocket_keeper.specs.Rows.{IsRising}
use Rattle.pocket_keeper.specs.Texts.{collection_row, rec_key, rec_row}
use Rattle.pocket_keeper.specs.declared.rows.KeptRow.{KeptRow}
use Rattle.pocket_keeper.proofs.KeyLemmas.{name_lacks_slash, word_next}
use Rattle.pocket_store.specs.Reading.{AddsCollection, IsPlaceOf, IsGoodRecAt}
use Rattle.pocket_rows.specs.RowReading.{KeepsCollection, KeepsNoCollection, KeepsNoRec, KeepsRec}
use Rattle.pocket_types.specs.Sound.{IsSoundCollection}
use Rattle.pocket_store.specs.Stores.{AllHoldKept, AreReadable, FitsAmong, HasKey, IsCollectionRow, IsGoodRec, IsKeptMember, IsRecRow}
use Rattle.pocket_store.proofs.ListLemmas.{IsIn, all_in, all_from_in, contains_from_in, in_back, in_either, in_from_contains, in_from_get, in_front, parts_at}
use Rattle.pocket_store.proofs.RisingLemmas.{same_key}
use Rattle.pocket_store.proofs.SearchLemmas.{key_of, name_of}

-- ---- one row after another

-- rows that were read stand before the next one
pub read_before : (rows : List KeptRow) (k : ℕ) (row x : KeptRow) → IsRising rows → k < length rows → row ≡ get_or rows k row → IsIn x (take k rows)
    → IsBefore x.key row.key
read_before rows k row x rising within is h =
    let parts : rows ≡ take k rows ++ row ∷ drop (suc k) rows = parts_at rows k row within ∙ ap (λ r. take k rows ++ r ∷ drop (suc k) rows) (sym is) in
    let split : Rises key_of (take k rows ++ row ∷ drop (suc k) rows) = subst (λ r. Rises key_of r) parts rising in
    all_in (λ y. IsBefore y.key row.key) (take k rows) x (rises_across key_of (take k rows) row (drop (suc k) rows) split) h

pub names_before : (c d : Collection) → IsBefore (collection_row c).key (collection_row d).key → IsBefore c.name d.name
names_before c d h = before_from_append (codes "c/") c.name d.name h

contains_more : (before : List KeptRow) (row x : KeptRow) → Contains before x → Contains (before ++ row ∷ []) x
contains_more before row x h = contains_from_in (before ++ row ∷ []) x (in_front before (row ∷ []) x (in_from_contains before x h))

contains_last : (before : List KeptRow) (row : KeptRow) → Contains (before ++ row ∷ []) row
contains_last before row = contains_from_in (before ++ row ∷ []) row (in_back before (row ∷ []) row (inl refl))

pub none_readable : AreReadable [] []
none_readable = record {
  sound = λ j d w. absurd (omega (arith, w));
  kept = λ j d w. absurd (omega (arith, w));
  whole = λ c s h. absurd (in_from_contains [] (collection_row c) h);
  rising = rises_nil name_of;
}

-- a row that keeps no collection changes nothing
pub readable_other : (before : List KeptRow) (row : KeptRow) (cs : List Collection) → KeepsNoCollection row → AreReadable before cs
    → AreReadable (before ++ row ∷ []) cs
readable_other before row cs none read = record {
  sound = read.sound;
  kept = All-weaker (λ c. Contains before (collection_row c)) (λ c. Contains (before ++ row ∷ []) (collection_row c)) (λ c h. contains_more before row (collection_row c) h) cs read.kept;
  whole = λ c s h.
      elim (in_either before (row ∷ []) (collection_row c) (in_from_contains (before ++ row ∷ []) (collection_row c) h)) [
        | inl old ↦ read.whole c s (contains_from_in before (collection_row c) old)
        | inr last ↦ elim last [ inl e ↦ absurd (none c s (sym e)) | inr never ↦ absurd never ]
      ];
  rising = read.rising;
}

-- a row that keeps a collection adds it
pub readable_more : (before : List KeptRow) (row : KeptRow) (cs : List Collection) (c : Collection) → KeepsCollection row c
    → All (λ x. IsBefore (key_of x) (key_of row)) before → AreReadable before cs → AreReadable (before ++ row ∷ []) (cs ++ c ∷ [])
readable_more before row cs c keeps earlier read =
    let below : All (λ d. IsBefore d.name c.name) cs = all_from_in (λ d. IsBefore d.name c.name) cs (λ d i.
    let there = all_in (λ d. Contains before (collection_row d)) cs d read.kept i in
    let e = all_in (λ x. IsBefore (key_of x) (key_of row)) before (collection_row d) earlier (in_from_contains before (collection_row d) there) in
    names_before d c (subst (λ x. IsBefore (collection_row d).key (key_of x)) keeps.kept e)) in
    record {
      sound = All-push IsSoundCollection cs c read.sound keeps.sound;
      kept = All-push (λ d. Contains (before ++ row ∷ []) (collection_row d)) cs c
          (All-weaker (λ d. Contains before (collection_row d)) (λ d. Contains (before ++ row ∷ []) (collection_row d)) (λ d h. contains_more before row (collection_row d) h) cs read.kept)
          (subst (λ x. Contains (before ++ row ∷ []) x) keeps.kept (contains_last before row));
      whole = λ d s h.
          elim (in_either before (row ∷ []) (collection_row d) (in_from_contains (before ++ row ∷ []) (collection_row d) h)) [
            | inl old ↦
                contains_from_in (cs ++ c ∷ []) d (in_front cs (c ∷ []) d (in_from_contains cs d (read.whole d s (contains_from_in before (collection_row d) old))))
            | inr last ↦ elim last [
              | inl e ↦ contains_from_in (cs ++ c ∷ []) d (in_back cs (c ∷ []) d (inl (keeps.only d s (sym e))))
              | inr never ↦ absurd never
            ]
          ];
      rising = rises_push name_of cs c read.rising below;
    }

-- ---- collections by name

pub got_is : {X : Type 0} (xs : List X) (k : ℕ) (x d : X) → slice_get xs k ≡ Some x → get_or xs k d ≡ x
got_is [] k x d e = cc
got_is (y ∷ ys) zero x d e = cc
got_is (y ∷ ys) (suc k) x d e = got_is ys k x d e

-- the collection that is read at the place of its name
pub record IsReadAt (cs : List Collection) (name : List ℕ) (at : ℕ) (d : Collection) : Type 0 where
  pub place : slice_get cs at ≡ Some d
  pub named : d.name ≡ name
  pub there : IsIn d cs

pub read_at : (cs : List Collection) (name : List ℕ) (at : ℕ) (d : Collection) → IsPlaceOf cs name at → d ≡ get_or cs at d → IsReadAt cs name at d
read_at cs name at d p is =
    let same : d ≡ p.collection = is ∙ got_is cs at p.collection d p.place in
    record {
      place = p.place ∙ ap Some (sym same);
      named = ap name_of same ∙ p.named;
      there = subst (λ x. IsIn x cs) (sym same) (in_from_get cs at p.collection p.place);
    }

-- ---- records

rec_named : (row : KeptRow) (name id : List ℕ) (c : Collection) (r : Rec) → HasNoByte 47 name → IsTrue (is_name c.name) → row.key ≡ rec_key name id
    → row ≡ rec_row c r → c.name ≡ name
rec_named row name id c r lacks n p q = (word_next 47 row.key (codes "r/") c.name name r.id id (name_lacks_slash c.name n) lacks (ap key_of q) p).0

-- a longer row is that of no record
pub no_long : (rows : List KeptRow) (cs : List Collection) (row : KeptRow) → 65536 < length row.value → ¬ IsRecRow rows cs row
no_long rows cs row long (c, r, there, g) = omega (arith, long, g.short)

module _ (rows : List KeptRow) (cs : List Collection) (row : KeptRow) (readable : AreReadable rows cs) where
  sound_in : (c : Collection) → Contains cs c → IsSoundCollection c
  sound_in c h = all_in IsSoundCollection cs c readable.sound (in_from_contains cs c h)

  pub no_key : ((name id : List ℕ) → HasNoByte 47 name → row.key ≢ rec_key name id) → ¬ IsRecRow rows cs row
  no_key none (c, r, there, g) = none c.name r.id (name_lacks_slash c.name (sound_in c there).name) (ap key_of g.kept)

  module _ (name id : List ℕ) (lacks : HasNoByte 47 name) (keyed : row.key ≡ rec_key name id) where
    pub no_place : All (λ c. c.name ≢ name) cs → ¬ IsRecRow rows cs row
    no_place none (c, r, there, g) =
        all_in (λ c. c.name ≢ name) cs c none (in_from_contains cs c there) (rec_named row name id c r lacks (sound_in c there).name keyed g.kept)

    module _ (at : ℕ) (d : Collection) (is : IsReadAt cs name at d) where
      -- the record's collection is the one that was read
      same_collection : (c : Collection) (r : Rec) → Contains cs c → row ≡ rec_row c r → c ≡ d
      same_collection c r there kept =
          same_key name_of cs c d readable.rising (in_from_contains cs c there) is.there (rec_named row name id c r lacks (sound_in c there).name keyed kept ∙ sym is.named)

      good_there : (h : IsRecRow rows cs row) → IsGoodRec rows row d h.1
      good_there (c, r, there, g) = subst (λ x. IsGoodRec rows row x r) (same_collection c r there g.kept) g

      pub no_rec : KeepsNoRec d row → ¬ IsRecRow rows cs row
      no_rec none h = let g = good_there h in none h.1 g.sound g.kept

      -- the one record that the row keeps is good there
      pub good_only : (rec : Rec) → KeepsRec d row rec → IsRecRow rows cs row → IsGoodRec rows row d rec
      good_only rec keeps h = let g = good_there h in subst (λ x. IsGoodRec rows row d x) (keeps.only h.1 g.sound g.kept) g

      pub good_at : (rec : Rec) → KeepsRec d row rec → AllHoldKept rows d.fields rec.cells → length row.value ≤ 65536 → IsGoodRecAt rows cs row at rec
      good_at rec keeps held short = record {
        collection = d;
        place = is.place;
        good = record { sound = keeps.sound; kept = keeps.kept; held = held; short = short };
      }

-- ---- members

module _ (rows : List KeptRow) (cs : List Collection) (name : Name) (id : List ℕ) (readable : AreReadable rows cs) where
  pub no_member : All (λ c. c.name ≢ name) cs → ¬ IsKeptMember rows cs name id
  no_member none m = all_in (λ c. c.name ≢ name) cs m.collection none (in_from_contains cs m.collection m.there) m.named

  module _ (at : ℕ) (d : Collection) (is : IsReadAt cs name at d) where
    pub no_auth : d.is_auth ≡ false → ¬ IsKeptMember rows cs name id
    no_auth base m =
        let same : m.collection ≡ d = same_key name_of cs m.collection d readable.rising (in_from_contains cs m.collection m.there) is.there (m.named ∙ sym is.named) in
        let auth : IsTrue d.is_auth = subst (λ c. IsTrue c.is_auth) same m.auth in
        cc

    pub member_kept : d.is_auth ≡ true → HasKey rows (rec_key name id) → IsKeptMember rows cs name id
    member_kept auth kept = record { collection = d; there = contains_from_in cs d is.there; named = is.named; auth = auth; kept = kept }

-- what a member's row decides
pub member_by : (rows : List KeptRow) (cs : List Collection) (name : Name) (id : List ℕ) (readable : AreReadable rows cs) (at : ℕ) (d : Collection)
    → IsReadAt cs name at d → d.is_auth ≡ true → (b : Bool) → MatchBool b (HasKey rows (rec_key name id)) (¬ HasKey rows (rec_key name id))
    → MatchBool b (IsKeptMember rows cs name id) (¬ IsKeptMember rows cs name id)
member_by rows cs name id readable at d is auth true h = member_kept rows cs name id readable at d is auth h
member_by rows cs name id readable at d is auth false h = λ m. h m.kept

-- the next row, whatever it keeps
pub adds_collection : (rows : List KeptRow) (k : ℕ) (row : KeptRow) (old new : List Collection) → IsRising rows → k < length rows → row ≡ get_or rows k row
    → AreReadable (take k rows) old → AddsCollection row old new → AreReadable (take (k + 1) rows) new
adds_collection rows k row old new rising within is read adds =
    let more : take (k + 1) rows ≡ take k rows ++ row ∷ [] = take_more rows k row within ∙ ap (λ r. take k rows ++ r ∷ []) (sym is) in
    let earlier : All (λ x. IsBefore (key_of x) (key_of row)) (take k rows) =
    all_from_in (λ x. IsBefore (key_of x) (key_of row)) (take k rows) (λ x i. read_before rows k row x rising within is i) in
    subst (λ l. AreReadable l new) (sym more)
    (elim adds [
      | inl next ↦ subst (λ cs. AreReadable (take k rows ++ row ∷ []) cs) (sym next.added) (readable_more (take k rows) row old next.collection next.keeps earlier read)
      | inr none ↦ subst (λ cs. AreReadable (take k rows ++ row ∷ []) cs) (sym none.same) (readable_other (take k rows) row old none.none read)
    ])

-- a row that keeps a collection is good where the collection fits
pub collection_by : (rows : List KeptRow) (cs : List Collection) (row : KeptRow) (c : Collection) → KeepsCollection row c → (b : Bool)
    → MatchBool b (FitsAmong rows cs c) (¬ FitsAmong rows cs c) → MatchBool b (IsCollectionRow rows cs row) (¬ IsCollectionRow rows cs row)
collection_by rows cs row c keeps true h = (c, record { sound = keeps.sound; kept = keeps.kept; fits = h })
collection_by rows cs row c keeps false h = λ g. h (subst (λ x. FitsAmong rows cs x) (keeps.only g.0 g.1.sound g.1.kept) g.1.fits)
