-- What a field, a collection and a record must be, each by itself, to stand in a sound state.
use Rattle.std.specs.Prelude.{◌≡◌, ◌≢◌, ◌≤◌, ◌<◌, ◌^◌, ◌||◌, not, ℕ, ℤ, Bool, true, false, List, [], ◌∷◌, codes, length, IfSome, All, AllPairs, IsTrue, IsUtf8}
use Rattle.std.specs.Str.{bytes_eq}
use Rattle.pocket_types.specs.Kinds.{is_multiple}
use Rattle.pocket_types.specs.Names.{is_name, is_id, IsMoment}
use Rattle.pocket_types.specs.Profile.{keys_rise, numbers_small, texts_utf8, levels, size_of}
use Rattle.pocket_types.specs.declared.json.Jv.{Jv}
use Rattle.pocket_types.specs.declared.records.Cell.{Cell}
use Rattle.pocket_types.specs.declared.records.Cell.TheVariants as cell
use Rattle.pocket_types.specs.declared.records.Collection.{Collection}
use Rattle.pocket_types.specs.declared.records.Field.{Field}
use Rattle.pocket_types.specs.declared.records.Kind.{Kind}
use Rattle.pocket_types.specs.declared.records.Kind.TheVariants as kind
use Rattle.pocket_types.specs.declared.records.Rec.{Rec}
use Rattle.pocket_types.specs.declared.records.Rule.{Rule}
use Rattle.pocket_types.specs.declared.records.Rule.TheVariants as rule

-- ---- fields

-- the names that no field may have
abbrev pub is_reserved : List ℕ → Bool
is_reserved name =
    bytes_eq name (codes "id") || bytes_eq name (codes "created") || bytes_eq name (codes "updated") || bytes_eq name (codes "collectionName") || bytes_eq name (codes "expand")

-- a name that a field may have
abbrev pub IsFieldName : List ℕ → Type 0
IsFieldName name = IsTrue (is_name name) × (is_reserved name ≡ false)

-- a number of at most 2^53 - 1 in size
abbrev pub IsSmall : ℤ → Type 0
IsSmall n = size_of n < 2 ^ 53

-- where `unique` may stand
abbrev pub may_be_unique : Kind → Bool
may_be_unique (kind.Text min max) = true
may_be_unique (kind.Number min max) = true
may_be_unique kind.Flag = false
may_be_unique (kind.Date min max) = true
may_be_unique (kind.Select values most) = not (is_multiple (kind.Select values most))
may_be_unique (kind.Json max) = false
may_be_unique (kind.Relation target most cascade) = not (is_multiple (kind.Relation target most cascade))

-- options that can be kept: counts of 32 bits, small numbers, moments, texts in UTF-8
abbrev pub IsSoundKind : Kind → Type 0
IsSoundKind (kind.Text min max) = (min < 2 ^ 32) × (max < 2 ^ 32)
IsSoundKind (kind.Number min max) = IfSome min IsSmall × IfSome max IsSmall
IsSoundKind kind.Flag = Unit {0}
IsSoundKind (kind.Date min max) = IfSome min IsMoment × IfSome max IsMoment
IsSoundKind (kind.Select values most) = All IsUtf8 values × (most < 2 ^ 32)
IsSoundKind (kind.Json max) = max < 2 ^ 32
IsSoundKind (kind.Relation target most cascade) = IsTrue (is_name target) × (most < 2 ^ 32)

pub record IsSoundField (f : Field) : Type 0 where
  pub name : IsFieldName f.name
  pub kind : IsSoundKind f.kind
  pub unique : IsTrue f.unique → IsTrue (may_be_unique f.kind)

-- ---- collections

-- the empty text isn't a filter: it is printed for the rule that is free
abbrev pub IsWritten : Rule → Type 0
IsWritten rule.Locked = Unit {0}
IsWritten rule.Free = Unit {0}
IsWritten (rule.Filter t) = IsUtf8 t × (t ≢ [])

-- a collection by itself, its fields' names differing
pub record IsSoundCollection (c : Collection) : Type 0 where
  pub name : IsTrue (is_name c.name)
  pub fields : All IsSoundField c.fields
  pub differ : AllPairs (λ f g. f.name ≢ g.name) c.fields
  pub list_rule : IsWritten c.list_rule
  pub view_rule : IsWritten c.view_rule
  pub create_rule : IsWritten c.create_rule
  pub update_rule : IsWritten c.update_rule
  pub delete_rule : IsWritten c.delete_rule

-- ---- records

-- no item stands twice
abbrev pub Differ : List (List ℕ) → Type 0
Differ = AllPairs (λ a b. a ≢ b)

-- a field of one item holds at most one
abbrev pub HoldsFew : Kind → List (List ℕ) → Type 0
HoldsFew k items = is_multiple k ≡ false → length items ≤ 1

abbrev pub IsItem : List ℕ → Type 0
IsItem t = IsUtf8 t × (t ≢ [])

-- a tree of the profile that fits into a record's row of at most 32 levels
pub record IsCellTree (tree : Jv) : Type 0 where
  pub keys : IsTrue (keys_rise tree)
  pub numbers : IsTrue (numbers_small tree)
  pub texts : IsTrue (texts_utf8 tree)
  pub depth : levels tree < 32

-- a cell is of the field's kind and multiplicity
abbrev pub Fits : Kind → Cell → Type 0
Fits (kind.Text min max) (cell.Text t) = IsUtf8 t
Fits (kind.Number min max) (cell.Num n) = IsSmall n
Fits kind.Flag (cell.Flag b) = Unit {0}
Fits (kind.Date min max) (cell.Date d) = IfSome d IsMoment
Fits (kind.Select values most) (cell.Picks items) = All IsItem items × Differ items × HoldsFew (kind.Select values most) items
Fits (kind.Json max) (cell.Json tree) = IsCellTree tree
Fits (kind.Relation target most cascade) (cell.Refs ids) = All (λ id. IsTrue (is_id id)) ids × Differ ids × HoldsFew (kind.Relation target most cascade) ids
Fits _ _ = ⊥

-- one cell per field, each of which fits
abbrev pub AllFit : List Field → List Cell → Type 0
AllFit [] [] = Unit {0}
AllFit (f ∷ fs) (c ∷ cs) = Fits f.kind c × AllFit fs cs
AllFit _ _ = ⊥

-- a record of a collection by itself
pub record IsSoundRec (c : Collection) (r : Rec) : Type 0 where
  pub id : IsTrue (is_id r.id)
  pub created : IsMoment r.created
  pub updated : IsMoment r.updated
  pub cells : AllFit c.fields r.cells
