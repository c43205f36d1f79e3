-- What a client's filter may ask of: the record itself and what its paths lead to, by no hidden field.
use Rattle.std.specs.Prelude.{◌≡◌, ◌⊎◌, ⊤, true, false, List, [], ◌∷◌, ◌++◌, All, Some}
use Rattle.pocket_types.specs.declared.names.Name.{Name}
use Rattle.pocket_types.specs.declared.records.Collection.{Collection}
use Rattle.pocket_types.specs.declared.records.Field.{Field}
use Rattle.pocket_types.specs.declared.resolved.Leaf.{Leaf}
use Rattle.pocket_types.specs.declared.resolved.Leaf.TheVariants as leaf
use Rattle.pocket_types.specs.declared.resolved.Prefix.{Prefix}
use Rattle.pocket_types.specs.declared.resolved.Resolved.{Resolved}
use Rattle.pocket_types.specs.declared.resolved.Root.TheVariants as root
use Rattle.pocket_types.specs.declared.resolved.Step.{Step}
use Rattle.pocket_types.specs.declared.resolved.Step.TheVariants as step
use Rattle.pocket_resolve.specs.Names.{is_built_in}
use Rattle.pocket_resolve.specs.Paths.{Place, field_at}
use Rattle.pocket_resolve.specs.Typing.{IsRecordOf, Leads, Along, sides}

-- the records of a place have a field of that name, and it isn't hidden
abbrev pub Shows : List Collection → Place → Name → Type 0
Shows collections place name = (f : Field) × (field_at collections place name ≡ Some f) × (f.hidden ≡ false)

-- a step leads from one place to another by a field that isn't hidden: one of the first place, or, back, one of the second
abbrev pub LeadsShown : List Collection → Place → Step → Place → Type 0
LeadsShown collections place (step.Forward name) next = Leads collections place (step.Forward name) next × Shows collections place name
LeadsShown collections place (step.Back from name) next = Leads collections place (step.Back from name) next × Shows collections next name
LeadsShown collections place (step.Item name) next = ⊥

-- a prefix is the record's own, and its steps lead to a place by fields that aren't hidden
abbrev pub IsOwnPath : List Collection → Name → Prefix → Place → Type 0
IsOwnPath collections home prefix place =
    (prefix.root ≡ root.Home) × (start : Place) × IsRecordOf collections home start × Along (LeadsShown collections) start prefix.steps place

-- the record at an own prefix has that name, as every record does, or shows a field of that name
abbrev pub IsOwnField : List Collection → Name → Prefix → Name → Type 0
IsOwnField collections home prefix name =
    (place : Place) × IsOwnPath collections home prefix place × ((is_built_in name ≡ true) ⊎ Shows collections place name)

-- a prefix leads by its last step to the items of a field that the record at the steps before it shows
abbrev pub AreOwnItems : List Collection → Name → Prefix → Type 0
AreOwnItems collections home prefix =
    (before : List Step) × (name : Name) × (place : Place) × (prefix.steps ≡ before ++ step.Item name ∷ [])
    × IsOwnPath collections home (record { root = prefix.root; steps = before }) place × Shows collections place name

-- one side of a comparison is safe: it is fixed, a macro, or on the record's own paths, and names no hidden field
abbrev pub IsSideSafe : List Collection → Name → Leaf → Type 0
IsSideSafe collections home (leaf.Of prefix name m) = IsOwnField collections home prefix name
IsSideSafe collections home (leaf.ItemOf prefix) = AreOwnItems collections home prefix
IsSideSafe collections home (leaf.Fixed value) = ⊤
IsSideSafe collections home (leaf.Macro which) = ⊤
IsSideSafe collections home _ = ⊥

-- a filter is safe to be asked by a client: both sides of each of its comparisons are
unfoldable pub IsSafe : List Collection → Name → Resolved → Type 0
IsSafe collections home filter = All (λ s. IsSideSafe collections home s.1) (sides filter)
