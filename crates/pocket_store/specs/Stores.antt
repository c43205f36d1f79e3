-- Which rows may stand in a store, and what they stand for.
use Rattle.std.specs.Prelude.{◌≡◌, ◌↔◌, ◌⊎◌, ◌≤◌, ◌==◌, ℕ, Bool, List, [], ◌∷◌, ◌++◌, codes, length, map, filter, All, Contains, IfSome, Ok, IsTrue, sum_by, ⊤}
use Rattle.std.specs.List.{flat_map, starts_with}
use Rattle.pocket_types.specs.Kinds.{target_of}
use Rattle.pocket_types.specs.Order.{Rises}
use Rattle.pocket_types.specs.declared.expr.Expr.{Expr}
use Rattle.pocket_types.specs.declared.names.Name.{Name}
use Rattle.pocket_types.specs.declared.records.Cell.{Cell}
use Rattle.pocket_types.specs.declared.records.Cell.TheVariants as cell
use Rattle.pocket_types.specs.declared.records.Collection.{Collection}
use Rattle.pocket_types.specs.declared.records.Field.{Field}
use Rattle.pocket_types.specs.declared.records.Kind.{Kind}
use Rattle.pocket_types.specs.declared.records.Kind.TheVariants as kind
use Rattle.pocket_types.specs.declared.records.Rec.{Rec}
use Rattle.pocket_types.specs.declared.records.Rule.{Rule}
use Rattle.pocket_types.specs.declared.records.Rule.TheVariants as rule
use Rattle.pocket_types.specs.declared.resolved.Resolved.{Resolved}
use Rattle.pocket_types.specs.declared.world.Shelf.{Shelf}
use Rattle.pocket_filter.specs.Filters.{IsFilter}
use Rattle.pocket_resolve.specs.Filters.{resolution}
use Rattle.pocket_resolve.specs.declared.purpose.Purpose.TheVariants.{RuleOf}
use Rattle.pocket_keeper.specs.Texts.{collection_key, collection_row, rec_key, rec_row, token_row}
use Rattle.pocket_keeper.specs.declared.rows.KeptRow.{KeptRow}
use Rattle.pocket_keeper.specs.declared.tokens.Token.{Token}
use Rattle.pocket_types.specs.Sound.{IsSoundCollection, IsSoundRec}
use Rattle.pocket_rows.specs.SoundTokens.{IsSoundToken}
use Rattle.pocket_store.specs.declared.stored.Stored.{Stored}
use Rattle.pocket_store.specs.declared.stored.StoreFault.{StoreFault}
use Rattle.pocket_store.specs.declared.stored.StoreFault.TheVariants.{BadStore, Memory}

-- a row of this key stands among the rows, be it good or bad
abbrev pub HasKey : List KeptRow → List ℕ → Type 0
HasKey rows key = (row : KeptRow) × Contains rows row × (row.key ≡ key)

-- ---- collections

-- the collections that have a row among these, rising by name
pub record AreReadable (rows : List KeptRow) (cs : List Collection) : Type 0 where
  pub sound : All IsSoundCollection cs
  pub kept : All (λ c. Contains rows (collection_row c)) cs
  pub whole : (c : Collection) → IsSoundCollection c → Contains rows (collection_row c) → Contains cs c
  pub rising : Rises (λ c. c.name) cs

-- the text is a filter that resolves as a rule of the collection of this name
pub record HoldsFilter (cs : List Collection) (name : Name) (text : List ℕ) : Type 0 where
  pub tree : Expr
  pub resolved : Resolved
  pub parses : IsFilter text tree
  pub resolves : resolution cs (RuleOf name) tree ≡ Ok resolved

-- a rule is locked, free, or a filter that resolves
abbrev pub Resolves : List Collection → Name → Rule → Type 0
Resolves cs name rule.Locked = ⊤
Resolves cs name rule.Free = ⊤
Resolves cs name (rule.Filter t) = HoldsFilter cs name t

-- each rule of the collection resolves among these collections
pub record RulesResolve (cs : List Collection) (c : Collection) : Type 0 where
  pub list_rule : Resolves cs c.name c.list_rule
  pub view_rule : Resolves cs c.name c.view_rule
  pub create_rule : Resolves cs c.name c.create_rule
  pub update_rule : Resolves cs c.name c.update_rule
  pub delete_rule : Resolves cs c.name c.delete_rule

-- the collection that a relation leads to is kept
abbrev pub LeadsToKept : List KeptRow → Field → Type 0
LeadsToKept rows f = IfSome (target_of f.kind) (λ target. HasKey rows (collection_key target))

-- a collection may stand among the others
pub record FitsAmong (rows : List KeptRow) (cs : List Collection) (c : Collection) : Type 0 where
  pub rules : RulesResolve cs c
  pub targets : All (LeadsToKept rows) c.fields
  pub few : length c.fields ≤ 64

-- the row of a collection that may stand there
pub record IsGoodCollection (rows : List KeptRow) (cs : List Collection) (row : KeptRow) (c : Collection) : Type 0 where
  pub sound : IsSoundCollection c
  pub kept : row ≡ collection_row c
  pub fits : FitsAmong rows cs c

-- ---- records

-- each id that a cell holds is that of a kept record of the field's target
abbrev pub HoldsKept : List KeptRow → Kind → Cell → Type 0
HoldsKept rows (kind.Relation target most cascade) (cell.Refs ids) = All (λ id. HasKey rows (rec_key target id)) ids
HoldsKept rows _ _ = ⊤

abbrev pub AllHoldKept : List KeptRow → List Field → List Cell → Type 0
AllHoldKept rows [] cells = ⊤
AllHoldKept rows (f ∷ fs) [] = ⊤
AllHoldKept rows (f ∷ fs) (cell ∷ cells) = HoldsKept rows f.kind cell × AllHoldKept rows fs cells

-- the row of a record of this collection that may stand there
pub record IsGoodRec (rows : List KeptRow) (row : KeptRow) (c : Collection) (r : Rec) : Type 0 where
  pub sound : IsSoundRec c r
  pub kept : row ≡ rec_row c r
  pub held : AllHoldKept rows c.fields r.cells
  pub short : length row.value ≤ 65536

-- ---- tokens

-- a record of an auth collection is kept
pub record IsKeptMember (rows : List KeptRow) (cs : List Collection) (name : Name) (id : List ℕ) : Type 0 where
  pub collection : Collection
  pub there : Contains cs collection
  pub named : collection.name ≡ name
  pub auth : IsTrue collection.is_auth
  pub kept : HasKey rows (rec_key name id)

-- the row of a token that may stand there
pub record IsGoodToken (rows : List KeptRow) (cs : List Collection) (row : KeptRow) (t : Token) : Type 0 where
  pub sound : IsSoundToken t
  pub kept : row ≡ token_row t
  pub member : IsKeptMember rows cs t.collection t.id

-- ---- rows

-- a row of a good collection
abbrev pub IsCollectionRow : List KeptRow → List Collection → KeptRow → Type 0
IsCollectionRow rows cs row = (c : Collection) × IsGoodCollection rows cs row c

-- a row of a good record of one of the collections
abbrev pub IsRecRow : List KeptRow → List Collection → KeptRow → Type 0
IsRecRow rows cs row = (c : Collection) × (r : Rec) × Contains cs c × IsGoodRec rows row c r

-- a row of a good token
abbrev pub IsTokenRow : List KeptRow → List Collection → KeptRow → Type 0
IsTokenRow rows cs row = (t : Token) × IsGoodToken rows cs row t

-- a row that may stand among these rows, whose collections are these, as far as limits let it
abbrev pub IsGoodRow : List KeptRow → List Collection → KeptRow → Type 0
IsGoodRow rows cs row = IsCollectionRow rows cs row ⊎ (IsRecRow rows cs row ⊎ IsTokenRow rows cs row)

-- ---- limits

-- the key begins so
abbrev pub begins : List ℕ → KeptRow → Bool
begins front row = starts_with ◌==◌ row.key front

-- the rows of collections
abbrev pub collections_in : List KeptRow → List KeptRow
collections_in rows = filter (begins (codes "c/")) rows

-- the rows of records
abbrev pub records_in : List KeptRow → List KeptRow
records_in rows = filter (begins (codes "r/")) rows

-- the rows of tokens
abbrev pub tokens_in : List KeptRow → List KeptRow
tokens_in rows = filter (begins (codes "t/")) rows

-- rows that pass no limit together
pub record AreWithinLimits (rows : List KeptRow) : Type 0 where
  pub collections : length (collections_in rows) ≤ 100
  pub records : length (records_in rows) ≤ 200000
  pub store : sum_by (λ row. length row.value) (records_in rows) ≤ 268435456
  pub tokens : length (tokens_in rows) ≤ 10000

-- the rows may stand in a store
pub record AreGood (rows : List KeptRow) : Type 0 where
  pub collections : List Collection
  pub readable : AreReadable rows collections
  pub good : All (IsGoodRow rows collections) rows
  pub within : AreWithinLimits rows

-- the key is that of the first row that may not stand there, or with which the rows up to it pass a limit
pub record IsFirstBadRow (rows : List KeptRow) (key : List ℕ) : Type 0 where
  pub collections : List Collection
  pub readable : AreReadable rows collections
  pub before : List KeptRow
  pub row : KeptRow
  pub later : List KeptRow
  pub parts : rows ≡ before ++ row ∷ later
  pub named : key ≡ row.key
  pub good : All (IsGoodRow rows collections) before
  pub within : AreWithinLimits before
  pub bad : ¬ (IsGoodRow rows collections row × AreWithinLimits (before ++ row ∷ []))

-- the fault is that of these rows, unless memory is wanting
abbrev pub IsFaultOf : List KeptRow → StoreFault → Type 0
IsFaultOf rows (BadStore key) = IsFirstBadRow rows key
IsFaultOf rows Memory = ⊤

-- ---- what is stored

-- the rows of a shelf: its collection's, and one for each record
abbrev pub shelf_rows : Shelf → List KeptRow
shelf_rows s = collection_row s.collection ∷ map (rec_row s.collection) s.recs

-- the kept rows of a state, as a map from keys to values
abbrev pub stored_rows : Stored → List KeptRow
stored_rows s = flat_map shelf_rows s.world.shelves ++ map token_row s.tokens

-- the two lists are one map
abbrev pub HaveSameRows : List KeptRow → List KeptRow → Type 0
HaveSameRows rows others = (row : KeptRow) → Contains rows row ↔ Contains others row

-- the rows stand for the state: none is bad, and together they are its kept rows
pub record IsStoreOf (rows : List KeptRow) (s : Stored) : Type 0 where
  pub good : AreGood rows
  pub same : HaveSameRows rows (stored_rows s)
