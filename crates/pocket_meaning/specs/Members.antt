-- What a path may lead to.
use Rattle.std.specs.Prelude.{ℕ, List}
use Rattle.pocket_types.specs.declared.records.Collection.{Collection}
use Rattle.pocket_types.specs.declared.records.Rec.{Rec}

-- nobody, a record with its collection, the text of an item, or the fields that were sent
pub data Member : Type 0 where
  Nobody : Member
  Record : Collection → Rec → Member
  Item : List ℕ → Member
  Sent : Member
