-- The cell that a tree stands for, and the values under the keys of a map.
use Rattle.std.specs.Prelude.{◌≡◌, ◌≢◌, ◌≤◌, ℕ, ℤ, false, nat_lt, List, [], ◌∷◌, codes, length, Option, Some, None, IfSome, MatchOption, if◌then◌else◌, All, map}
use Rattle.std.specs.Str.{bytes_eq}
use Rattle.pocket_types.specs.Json.{printed}
use Rattle.pocket_types.specs.Names.{IsMoment}
use Rattle.pocket_types.specs.declared.json.Jv.{Jv}
use Rattle.pocket_types.specs.declared.json.Member.{Member}
use Rattle.pocket_types.specs.declared.records.Cell.{Cell}
use Rattle.pocket_types.specs.declared.records.Collection.{Collection}
use Rattle.pocket_types.specs.declared.records.Field.{Field}
use Rattle.pocket_types.specs.declared.records.Kind.{Kind}
use Rattle.pocket_types.specs.declared.records.Rec.{Rec}
use Rattle.pocket_types.specs.Profile.{IsProfiled}
use Rattle.pocket_ops.specs.Dates.{date_text}
use Rattle.pocket_types.specs.Maps.{map_jv, member_of}
use Rattle.pocket_ops.specs.Trees.{text_jv, date_jv, cell_jv, items_jv}
use Rattle.pocket_keeper.specs.Texts.{rec_row, token_row}
use Rattle.pocket_keeper.specs.declared.rows.KeptRow.{KeptRow}
use Rattle.pocket_keeper.specs.declared.tokens.Token.{Token}
use Rattle.pocket_types.specs.Sound.{IsCellTree, IsItem, Differ, Fits, AllFit, IsSoundRec}
use Rattle.pocket_rows.specs.SoundTokens.{IsSoundToken}

-- ---- members

-- each value fits into a cell
abbrev pub AreShallow : List Member → Type 0
AreShallow = All (λ m. IsCellTree m.value)

-- the value under a key, of the first member that has it
abbrev pub value_under : List ℕ → List Member → Option Jv
value_under key [] = None
value_under key (m ∷ ms) = if bytes_eq m.key key then Some m.value else value_under key ms

-- no tree of the profile has this text
abbrev pub IsNoTree : List ℕ → Type 0
IsNoTree text = (tree : Jv) → IsProfiled tree → text ≢ printed tree

-- the tree of the profile that a text is read as
pub record IsTreeOf (text : List ℕ) (tree : Jv) : Type 0 where
  pub profile : IsProfiled tree
  pub only : (other : Jv) → IsProfiled other → text ≡ printed other → other ≡ tree

-- no map of the profile has this text
abbrev pub IsNoMap : List ℕ → Type 0
IsNoMap text = (es : List (List ℕ × Jv)) → IsProfiled (map_jv es) → text ≢ printed (map_jv es)

-- what the map that has this text must be
pub record MayBeMap (text : List ℕ) (members : List Member) : Type 0 where
  pub shallow : AreShallow members
  pub only : (es : List (List ℕ × Jv)) → IsProfiled (map_jv es) → text ≡ printed (map_jv es) → members ≡ map member_of es

-- ---- moments

-- no moment's text stands under the key
abbrev pub HasNoMoment : List ℕ → List Member → Type 0
HasNoMoment key members = (m : ℤ) → IsMoment m → value_under key members ≢ Some (text_jv (date_text m))

-- the one moment whose text may stand under the key
pub record MayHaveMoment (key : List ℕ) (members : List Member) (m : ℤ) : Type 0 where
  pub form : IsMoment m
  pub only : (n : ℤ) → IsMoment n → value_under key members ≡ Some (text_jv (date_text n)) → n ≡ m

-- no date has the tree
abbrev pub IsNoDate : Jv → Type 0
IsNoDate tree = (d : Option ℤ) → IfSome d IsMoment → tree ≢ date_jv d

-- the one date that may have the tree
pub record MayBeDate (tree : Jv) (d : Option ℤ) : Type 0 where
  pub form : IfSome d IsMoment
  pub only : (e : Option ℤ) → IfSome e IsMoment → tree ≡ date_jv e → e ≡ d

-- ---- items

-- no item is empty
abbrev pub AreFilled : List (List ℕ) → Type 0
AreFilled = All (λ t. t ≢ [])

-- no item has the tree
abbrev pub IsNoItem : Jv → Type 0
IsNoItem tree = (t : List ℕ) → t ≢ [] → tree ≢ text_jv t

-- items that a field of at most so many holds
pub record AreItems (most : ℕ) (items : List (List ℕ)) : Type 0 where
  pub filled : AreFilled items
  pub differ : Differ items
  pub few : nat_lt 1 most ≡ false → length items ≤ 1

-- no items have the tree
abbrev pub AreNoItems : ℕ → Jv → Type 0
AreNoItems most tree = (items : List (List ℕ)) → AreItems most items → tree ≢ items_jv most items

-- the only items that may have the tree
pub record MayBeItems (most : ℕ) (tree : Jv) (items : List (List ℕ)) : Type 0 where
  pub texts : All IsItem items
  pub are : AreItems most items
  pub only : (others : List (List ℕ)) → AreItems most others → tree ≡ items_jv most others → others ≡ items

-- ---- cells

-- no cell of this kind has the tree
abbrev pub IsNoCell : Kind → Jv → Type 0
IsNoCell k tree = (c : Cell) → Fits k c → tree ≢ cell_jv k c

-- the one cell that may have the tree
pub record MayBeCell (k : Kind) (tree : Jv) (c : Cell) : Type 0 where
  pub fits : Fits k c
  pub only : (d : Cell) → Fits k d → tree ≡ cell_jv k d → d ≡ c

-- what was found is the one cell that may have the tree; nothing was found only where no cell has it
abbrev pub ReadsCell : Kind → Jv → Option Cell → Type 0
ReadsCell k tree found = MatchOption found (IsNoCell k tree) (λ c. MayBeCell k tree c)

-- ---- fields

-- no cell stands under the field's name
abbrev pub HasNoCell : Field → List Member → Type 0
HasNoCell f members = (c : Cell) → Fits f.kind c → value_under f.name members ≢ Some (cell_jv f.kind c)

-- the one cell that may stand there
pub record MayHaveCell (f : Field) (members : List Member) (c : Cell) : Type 0 where
  pub fits : Fits f.kind c
  pub only : (d : Cell) → Fits f.kind d → value_under f.name members ≡ Some (cell_jv f.kind d) → d ≡ c

-- the tree of each cell stands under its field's name
abbrev pub AreUnder : List Field → List Cell → List Member → Type 0
AreUnder [] cells members = Unit {0}
AreUnder (f ∷ fs) [] members = Unit {0}
AreUnder (f ∷ fs) (c ∷ cs) members = (value_under f.name members ≡ Some (cell_jv f.kind c)) × AreUnder fs cs members

-- no cells stand there
abbrev pub HasNoCells : List Field → List Member → Type 0
HasNoCells fields members = (cells : List Cell) → AllFit fields cells → ¬ AreUnder fields cells members

-- the only cells that may stand there
pub record MayHaveCells (fields : List Field) (members : List Member) (cells : List Cell) : Type 0 where
  pub fit : AllFit fields cells
  pub only : (others : List Cell) → AllFit fields others → AreUnder fields others members → others ≡ cells

-- ---- records

-- what a sound record's row has under the names
pub record IsUnder (c : Collection) (r : Rec) (members : List Member) : Type 0 where
  pub created : value_under (codes "created") members ≡ Some (text_jv (date_text r.created))
  pub updated : value_under (codes "updated") members ≡ Some (text_jv (date_text r.updated))
  pub cells : AreUnder c.fields r.cells members

-- no record of the collection stands there
abbrev pub HasNoRec : Collection → List Member → Type 0
HasNoRec c members = (r : Rec) → IsSoundRec c r → ¬ IsUnder c r members

-- the one record of this id that may stand there
pub record MayHaveRec (c : Collection) (id : List ℕ) (members : List Member) (r : Rec) : Type 0 where
  pub sound : IsSoundRec c r
  pub only : (s : Rec) → IsSoundRec c s → s.id ≡ id → IsUnder c s members → s ≡ r

-- the one record that may have the row
pub record MayKeepRec (c : Collection) (row : KeptRow) (r : Rec) : Type 0 where
  pub sound : IsSoundRec c r
  pub only : (s : Rec) → IsSoundRec c s → row ≡ rec_row c s → s ≡ r

-- ---- tokens

-- what a sound token's row has under its names
pub record IsTokenUnder (t : Token) (members : List Member) : Type 0 where
  pub collection : value_under (codes "collection") members ≡ Some (text_jv t.collection)
  pub id : value_under (codes "id") members ≡ Some (text_jv t.id)
  pub until : value_under (codes "until") members ≡ Some (text_jv (date_text t.until))

-- no token stands there
abbrev pub HasNoToken : List Member → Type 0
HasNoToken members = (t : Token) → IsSoundToken t → ¬ IsTokenUnder t members

-- the one token of this text that may stand there
pub record MayHaveToken (text : List ℕ) (members : List Member) (t : Token) : Type 0 where
  pub sound : IsSoundToken t
  pub only : (u : Token) → IsSoundToken u → u.text ≡ text → IsTokenUnder u members → u ≡ t

-- the one token that may have the row
pub record MayKeepToken (row : KeptRow) (t : Token) : Type 0 where
  pub sound : IsSoundToken t
  pub only : (u : Token) → IsSoundToken u → row ≡ token_row u → u ≡ t
