-- The lengths of texts, held at the end of 64 bits.
use Rattle.std.specs.Prelude.{◌≢◌, ℕ, ◌-◌, ◌^◌, min, Bool, not, ◌&&◌, List, length, codes, AllPairs}
use Rattle.std.specs.List.{AllPass}
use Rattle.std.specs.Str.{bytes_eq}
use Rattle.pocket_types.specs.Json.{printed}
use Rattle.pocket_types.specs.declared.records.Collection.{Collection}
use Rattle.pocket_types.specs.declared.records.Field.{Field}
use Rattle.pocket_types.specs.declared.records.Rec.{Rec}
use Rattle.pocket_ops.specs.Trees.{kept_jv}

-- a number, held at 2^64 - 1
abbrev pub held : ℕ → ℕ
held n = min n (2 ^ 64 - 1)

-- the number of bytes of a record's row text
abbrev pub row_len : Collection → Rec → ℕ
row_len c r = length (printed (kept_jv c r))

-- whether a field's name is none of a record's dates
abbrev pub is_undated : Field → Bool
is_undated f = not (bytes_eq f.name (codes "created")) && not (bytes_eq f.name (codes "updated"))

-- no two fields have one name
abbrev pub AreApart : List Field → Type 0
AreApart fs = AllPairs (λ f g. f.name ≢ g.name) fs

-- no two members of a record's row have one name
pub record HasOwnNames (c : Collection) : Type 0 where
  pub apart : AreApart c.fields
  pub undated : AllPass is_undated c.fields
