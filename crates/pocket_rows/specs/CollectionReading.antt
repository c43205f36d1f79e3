-- The fields of a collection, read from their tree.
use Rattle.std.specs.Prelude.{◌≡◌, ◌≢◌, List, map, Option, Some, All, AllPairs, IfSome}
use Rattle.pocket_types.specs.declared.json.Jv.{Jv}
use Rattle.pocket_types.specs.declared.records.Field.{Field}
use Rattle.pocket_ops.specs.Trees.{list_jv, field_jv}
use Rattle.pocket_types.specs.Sound.{IsSoundField}

-- sound fields whose names differ
pub record AreFields (fs : List Field) : Type 0 where
  pub sound : All IsSoundField fs
  pub differ : AllPairs (λ f g. f.name ≢ g.name) fs

-- what was found are fields, and those whose tree this is, where there are any
pub record ReadsFields (tree : Jv) (found : Option (List Field)) : Type 0 where
  pub are : IfSome found AreFields
  pub back : (fs : List Field) → AreFields fs → tree ≡ list_jv (map field_jv fs) → found ≡ Some fs
