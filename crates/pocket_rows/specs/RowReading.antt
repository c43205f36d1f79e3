-- The one collection, record or token that a row keeps, where there is one.
use Rattle.std.specs.Prelude.{◌≡◌, ◌≢◌}
use Rattle.pocket_types.specs.declared.records.Collection.{Collection}
use Rattle.pocket_types.specs.declared.records.Rec.{Rec}
use Rattle.pocket_keeper.specs.Texts.{collection_row, rec_row, token_row}
use Rattle.pocket_keeper.specs.declared.rows.KeptRow.{KeptRow}
use Rattle.pocket_keeper.specs.declared.tokens.Token.{Token}
use Rattle.pocket_types.specs.Sound.{IsSoundCollection, IsSoundRec}
use Rattle.pocket_rows.specs.SoundTokens.{IsSoundToken}

-- no collection that could be sound has the row
abbrev pub KeepsNoCollection : KeptRow → Type 0
KeepsNoCollection row = (c : Collection) → IsSoundCollection c → row ≢ collection_row c

-- the row keeps this collection, and no other
pub record KeepsCollection (row : KeptRow) (c : Collection) : Type 0 where
  pub sound : IsSoundCollection c
  pub kept : row ≡ collection_row c
  pub only : (d : Collection) → IsSoundCollection d → row ≡ collection_row d → d ≡ c

abbrev pub KeepsNoRec : Collection → KeptRow → Type 0
KeepsNoRec c row = (r : Rec) → IsSoundRec c r → row ≢ rec_row c r

-- the row keeps this record of the collection, and no other
pub record KeepsRec (c : Collection) (row : KeptRow) (r : Rec) : Type 0 where
  pub sound : IsSoundRec c r
  pub kept : row ≡ rec_row c r
  pub only : (s : Rec) → IsSoundRec c s → row ≡ rec_row c s → s ≡ r

abbrev pub KeepsNoToken : KeptRow → Type 0
KeepsNoToken row = (t : Token) → IsSoundToken t → row ≢ token_row t

-- the row keeps this token, and no other
pub record KeepsToken (row : KeptRow) (t : Token) : Type 0 where
  pub sound : IsSoundToken t
  pub kept : row ≡ token_row t
  pub only : (u : Token) → IsSoundToken u → row ≡ token_row u → u ≡ t
