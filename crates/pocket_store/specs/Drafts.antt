-- What the rows so far hold, beside the collections: the records of each collection, and the tokens.
use Rattle.std.specs.Prelude.{◌≡◌, ◌<◌, ℕ, List, [], ◌∷◌, ◌++◌, length, map, slice_set, slice_index_or, sum_by, All, ⊤}
use Rattle.pocket_types.specs.Order.{Rises}
use Rattle.pocket_types.specs.declared.records.Collection.{Collection}
use Rattle.pocket_types.specs.declared.records.Rec.{Rec}
use Rattle.pocket_types.specs.declared.world.Shelf.{Shelf}
use Rattle.pocket_keeper.specs.Texts.{rec_row, token_row}
use Rattle.pocket_keeper.specs.declared.rows.KeptRow.{KeptRow}
use Rattle.pocket_keeper.specs.declared.tokens.Token.{Token}
use Rattle.pocket_store.specs.Limits.{AreJudged}
use Rattle.pocket_ops.specs.Lengths.{row_len}
use Rattle.pocket_store.specs.Stores.{HaveSameRows, IsGoodRec, IsGoodToken, records_in, stored_rows, tokens_in}
use Rattle.pocket_store.specs.declared.stored.Stored.{Stored}
use Rattle.pocket_store.specs.declared.stores.Found.{Found}
use Rattle.pocket_store.specs.declared.stores.Found.TheVariants as found

-- a shelf with one record more at its end
abbrev pub with_rec : Shelf → Rec → Shelf
with_rec s r = record s { recs = s.recs ++ r ∷ [] }

-- the shelves of collections and of their records
abbrev pub shelves_of : List Collection → List (List Rec) → List Shelf
shelves_of [] recs = []
shelves_of (c ∷ cs) [] = []
shelves_of (c ∷ cs) (rs ∷ recs) = record { collection = c; recs = rs } ∷ shelves_of cs recs

-- a record's collection is one of so many
abbrev pub HasRoom : ℕ → Found → Type 0
HasRoom n found.Collection = ⊤
HasRoom n (found.Rec at rec) = at < n
HasRoom n (found.Token t) = ⊤

-- what is found is added to the records and tokens
abbrev pub Adds : Found → List (List Rec) → List Token → List (List Rec) → List Token → Type 0
Adds found.Collection recs tokens more_recs more_tokens = (more_recs ≡ recs) × (more_tokens ≡ tokens)
Adds (found.Rec at rec) recs tokens more_recs more_tokens = (more_recs ≡ slice_set recs at (slice_index_or recs at [] ++ rec ∷ [])) × (more_tokens ≡ tokens)
Adds (found.Token t) recs tokens more_recs more_tokens = (more_recs ≡ recs) × (more_tokens ≡ tokens ++ t ∷ [])

-- no records for each collection
abbrev pub no_recs : List Collection → List (List Rec)
no_recs cs = map (λ c. []) cs

-- the state of collections, of their records and of tokens
abbrev pub draft : List Collection → List (List Rec) → List Token → Stored
draft cs recs ts = record { world = record { shelves = shelves_of cs recs }; tokens = ts }

-- the records of a shelf are good, and rise by id
pub record AreGoodRecs (rows : List KeptRow) (s : Shelf) : Type 0 where
  pub good : All (λ r. IsGoodRec rows (rec_row s.collection r) s.collection r) s.recs
  pub rising : Rises (λ r. r.id) s.recs

-- the tokens are good, and rise by their text
pub record AreGoodTokens (rows : List KeptRow) (cs : List Collection) (ts : List Token) : Type 0 where
  pub good : All (λ t. IsGoodToken rows cs (token_row t) t) ts
  pub rising : Rises (λ t. t.text) ts

-- the bytes of the row texts of a shelf's records
abbrev pub shelf_len : Shelf → ℕ
shelf_len s = sum_by (row_len s.collection) s.recs

-- the shelves and tokens take of the limits what these rows take
pub record AreCounted (rows : List KeptRow) (shelves : List Shelf) (ts : List Token) : Type 0 where
  pub records : sum_by (λ s. length s.recs) shelves ≡ length (records_in rows)
  pub store : sum_by shelf_len shelves ≡ sum_by (λ row. length row.value) (records_in rows)
  pub tokens : length ts ≡ length (tokens_in rows)

-- the rows are good, and those of the state that was read from them
pub record IsWhole (rows : List KeptRow) (cs : List Collection) (recs : List (List Rec)) (ts : List Token) : Type 0 where
  pub judged : AreJudged rows cs
  pub lengths : length recs ≡ length cs
  pub same : HaveSameRows rows (stored_rows (draft cs recs ts))
  pub good_recs : All (AreGoodRecs rows) (shelves_of cs recs)
  pub good_tokens : AreGoodTokens rows cs ts
  pub counted : AreCounted rows (shelves_of cs recs) ts
