-- What the row of a collection has under its names.
use Rattle.std.specs.Prelude.{◌≡◌, ℕ, List, codes, map, Option, Some, IfSome}
use Rattle.pocket_types.specs.declared.json.Member.{Member}
use Rattle.pocket_types.specs.declared.records.Collection.{Collection}
use Rattle.pocket_types.specs.declared.records.Field.{Field}
use Rattle.pocket_ops.specs.Trees.{text_jv, list_jv, field_jv, rule_jv, type_text}
use Rattle.pocket_keeper.specs.Texts.{collection_row}
use Rattle.pocket_keeper.specs.declared.rows.KeptRow.{KeptRow}
use Rattle.pocket_rows.specs.declared.rules.Rules.{Rules}
use Rattle.pocket_rows.specs.Cells.{value_under}
use Rattle.pocket_rows.specs.CollectionReading.{AreFields}
use Rattle.pocket_types.specs.Sound.{IsWritten, IsSoundCollection}

-- ---- rules

-- the rules whose trees stand under their names
pub record AreRulesUnder (rules : Rules) (members : List Member) : Type 0 where
  pub list : value_under (codes "listRule") members ≡ Some (rule_jv rules.list)
  pub view : value_under (codes "viewRule") members ≡ Some (rule_jv rules.view)
  pub create : value_under (codes "createRule") members ≡ Some (rule_jv rules.create)
  pub update : value_under (codes "updateRule") members ≡ Some (rule_jv rules.update)
  pub delete : value_under (codes "deleteRule") members ≡ Some (rule_jv rules.delete)

-- rules none of which is an empty filter
pub record AreWritten (rules : Rules) : Type 0 where
  pub list : IsWritten rules.list
  pub view : IsWritten rules.view
  pub create : IsWritten rules.create
  pub update : IsWritten rules.update
  pub delete : IsWritten rules.delete

-- no five rules stand there
abbrev pub HasNoRules : List Member → Type 0
HasNoRules members = (rules : Rules) → ¬ AreRulesUnder rules members

-- these rules stand there
pub record HasRules (members : List Member) (rules : Rules) : Type 0 where
  pub written : AreWritten rules
  pub under : AreRulesUnder rules members

-- ---- fields

-- what was found are fields, and those whose tree stands under their name, where there are any
pub record ReadsFieldsUnder (members : List Member) (found : Option (List Field)) : Type 0 where
  pub are : IfSome found AreFields
  pub back : (fs : List Field) → AreFields fs → value_under (codes "fields") members ≡ Some (list_jv (map field_jv fs)) → found ≡ Some fs

-- ---- collections

abbrev pub rules_of : Collection → Rules
rules_of c = record { list = c.list_rule; view = c.view_rule; create = c.create_rule; update = c.update_rule; delete = c.delete_rule }

-- what a collection's row has under the names, its own name left out
pub record IsCollectionUnder (c : Collection) (members : List Member) : Type 0 where
  pub fields : value_under (codes "fields") members ≡ Some (list_jv (map field_jv c.fields))
  pub kind : value_under (codes "type") members ≡ Some (text_jv (type_text c.is_auth))
  pub rules : AreRulesUnder (rules_of c) members

-- no sound collection stands there
abbrev pub HasNoCollection : List Member → Type 0
HasNoCollection members = (c : Collection) → IsSoundCollection c → ¬ IsCollectionUnder c members

-- the one collection of this name that may stand there
pub record MayHaveCollection (name : List ℕ) (members : List Member) (c : Collection) : Type 0 where
  pub sound : IsSoundCollection c
  pub only : (d : Collection) → IsSoundCollection d → d.name ≡ name → IsCollectionUnder d members → d ≡ c

-- the one collection that may have the row
pub record MayKeepCollection (row : KeptRow) (c : Collection) : Type 0 where
  pub sound : IsSoundCollection c
  pub only : (d : Collection) → IsSoundCollection d → row ≡ collection_row d → d ≡ c
