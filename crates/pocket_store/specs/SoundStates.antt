-- What a state must be to be sound: each of its parts by itself, the parts together, and the limits.
use Rattle.std.specs.Prelude.{◌≤◌, length, All, IsTrue, sum_by}
use Rattle.pocket_types.specs.Order.{Rises}
use Rattle.pocket_types.specs.Sound.{IsSoundCollection, IsSoundRec}
use Rattle.pocket_types.specs.Within.{AllHoldWithin, HasRec, IsShelf, LeadsWithin, collections_of}
use Rattle.pocket_types.specs.declared.records.Collection.{Collection}
use Rattle.pocket_types.specs.declared.records.Rec.{Rec}
use Rattle.pocket_types.specs.declared.world.Shelf.{Shelf}
use Rattle.pocket_types.specs.declared.world.World.{World}
use Rattle.pocket_ops.specs.Lengths.{row_len}
use Rattle.pocket_keeper.specs.declared.tokens.Token.{Token}
use Rattle.pocket_rows.specs.SoundTokens.{IsSoundToken}
use Rattle.pocket_store.specs.Stores.{RulesResolve}
use Rattle.pocket_store.specs.declared.stored.Stored.{Stored}

-- a record in its place in the world
pub record IsSoundRecIn (w : World) (c : Collection) (r : Rec) : Type 0 where
  pub alone : IsSoundRec c r
  pub held : AllHoldWithin w c.fields r.cells
  pub short : row_len c r ≤ 65536

-- a collection in its place in the world, its records rising by id
pub record IsSoundShelf (w : World) (s : Shelf) : Type 0 where
  pub alone : IsSoundCollection s.collection
  pub rules : RulesResolve (collections_of w) s.collection
  pub targets : All (LeadsWithin w) s.collection.fields
  pub few : length s.collection.fields ≤ 64
  pub recs : All (IsSoundRecIn w s.collection) s.recs
  pub rising : Rises (λ r. r.id) s.recs

-- sound shelves, rising by name, within the limits
pub record IsSoundWorld (w : World) : Type 0 where
  pub shelves : All (IsSoundShelf w) w.shelves
  pub rising : Rises (λ s. s.collection.name) w.shelves
  pub collections : length w.shelves ≤ 100
  pub records : sum_by (λ s. length s.recs) w.shelves ≤ 200000
  pub store : sum_by (λ s. sum_by (row_len s.collection) s.recs) w.shelves ≤ 268435456

-- the token's record stands in an auth collection
pub record HasMember (w : World) (t : Token) : Type 0 where
  pub shelf : Shelf
  pub there : IsShelf w t.collection shelf
  pub auth : IsTrue shelf.collection.is_auth
  pub member : HasRec shelf t.id

-- a token in its place in the world
pub record IsSoundTokenIn (w : World) (t : Token) : Type 0 where
  pub alone : IsSoundToken t
  pub member : HasMember w t

-- a sound world, and sound tokens, rising by their text
pub record IsSoundStored (s : Stored) : Type 0 where
  pub world : IsSoundWorld s.world
  pub tokens : All (IsSoundTokenIn s.world) s.tokens
  pub rising : Rises (λ t. t.text) s.tokens
  pub few : length s.tokens ≤ 10000
