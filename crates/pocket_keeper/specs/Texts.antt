-- The rows that keep collections, records and tokens.
use Rattle.std.specs.Prelude.{ℕ, ℤ, ◌<◌, ◌≢◌, List, [], ◌∷◌, ◌++◌, length, slice_index, codes}
use Rattle.pocket_types.specs.declared.json.Jv.{Jv}
use Rattle.pocket_types.specs.declared.records.Collection.{Collection}
use Rattle.pocket_types.specs.declared.records.Rec.{Rec}
use Rattle.pocket_types.specs.Json.{printed}
use Rattle.pocket_ops.specs.Dates.{date_text}
use Rattle.pocket_types.specs.Maps.{map_jv}
use Rattle.pocket_ops.specs.Trees.{text_jv, collection_jv, kept_jv}
use Rattle.pocket_keeper.specs.declared.rows.KeptRow.{KeptRow}
use Rattle.pocket_keeper.specs.declared.tokens.Token.{Token}

-- the byte stands nowhere in the text
abbrev pub HasNoByte : ℕ → List ℕ → Type 0
HasNoByte b text = (i : ℕ) → i < length text → slice_index text i ≢ b

-- the key of a collection's row: `c/` and its name
abbrev pub collection_key : List ℕ → List ℕ
collection_key name = codes "c/" ++ name

abbrev pub collection_row : Collection → KeptRow
collection_row c = record { key = collection_key c.name; value = printed (collection_jv c) }

-- the key of a record's row: `r/`, the collection's name, `/`, the id
abbrev pub rec_key : List ℕ → List ℕ → List ℕ
rec_key name id = codes "r/" ++ (name ++ (47 ∷ id))

abbrev pub rec_row : Collection → Rec → KeptRow
rec_row c r = record { key = rec_key c.name r.id; value = printed (kept_jv c r) }

-- whose token it is, and until when
abbrev pub token_members : List ℕ → List ℕ → ℤ → List (List ℕ × Jv)
token_members collection id until =
    (codes "collection", text_jv collection) ∷ (codes "id", text_jv id) ∷ (codes "until", text_jv (date_text until)) ∷ []

abbrev pub token_row : Token → KeptRow
token_row t = record { key = codes "t/" ++ t.text; value = printed (map_jv (token_members t.collection t.id t.until)) }
