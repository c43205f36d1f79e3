-- What it means that a resolved filter is typed: each name in it stands for something that the collections have.
use Rattle.std.specs.Prelude.{◌≡◌, ◌⊎◌, ⊤, Bool, true, false, not, ◌&&◌, List, [], ◌∷◌, ◌++◌, All, Some}
use Rattle.pocket_types.specs.Kinds.{is_multiple, target_of}
use Rattle.pocket_types.specs.declared.names.Name.{Name}
use Rattle.pocket_types.specs.declared.records.Collection.{Collection}
use Rattle.pocket_types.specs.declared.records.Field.{Field}
use Rattle.pocket_types.specs.declared.records.Kind.{Kind}
use Rattle.pocket_types.specs.declared.resolved.Leaf.{Leaf}
use Rattle.pocket_types.specs.declared.resolved.Leaf.TheVariants as leaf
use Rattle.pocket_types.specs.declared.resolved.Modifier.{Modifier}
use Rattle.pocket_types.specs.declared.resolved.Modifier.TheVariants as modifier
use Rattle.pocket_types.specs.declared.resolved.Prefix.{Prefix}
use Rattle.pocket_types.specs.declared.resolved.Resolved.{Resolved, fold-Resolved}
use Rattle.pocket_types.specs.declared.resolved.Resolved.TheOpen.{Resolved-F}
use Rattle.pocket_types.specs.declared.resolved.Resolved.TheOpen as resolved
use Rattle.pocket_types.specs.declared.resolved.Root.{Root}
use Rattle.pocket_types.specs.declared.resolved.Root.TheVariants as root
use Rattle.pocket_types.specs.declared.resolved.Step.{Step}
use Rattle.pocket_types.specs.declared.resolved.Step.TheVariants as step
use Rattle.pocket_resolve.specs.Fields.{collection_named, has_letters}
use Rattle.pocket_resolve.specs.Names.{is_built_in}
use Rattle.pocket_resolve.specs.Paths.{Place, Of, Caller, field_at, leads_to}

-- ---- places

-- the place is a record of the collection of that name, which is in the list
abbrev pub IsRecordOf : List Collection → Name → Place → Type 0
IsRecordOf collections name place = (c : Collection) × (collection_named collections name ≡ Some c) × (place ≡ Of c)

-- the records of a place have a field of that name, whose kind passes a test
abbrev pub HasField : List Collection → Place → Name → (Kind → Bool) → Type 0
HasField collections place name test = (f : Field) × (field_at collections place name ≡ Some f) × (test f.kind ≡ true)

-- a step leads from one place to another: forward by a relation of the first to the records of its target, or back to the
-- records of a collection by their relation to the first
abbrev pub Leads : List Collection → Place → Step → Place → Type 0
Leads collections place (step.Forward name) next =
    (f : Field) × (target : Name) × (field_at collections place name ≡ Some f) × (target_of f.kind ≡ Some target) × IsRecordOf collections target next
Leads collections place (step.Back from name) next =
    IsRecordOf collections from next × HasField collections next name (leads_to collections place)
Leads collections place (step.Item name) next = ⊥

-- steps go from one place to another: each goes on from where those before it went
abbrev pub Along : (Place → Step → Place → Type 0) → Place → List Step → Place → Type 0
Along goes place [] last = place ≡ last
Along goes place (step ∷ steps) last = (next : Place) × goes place step next × Along goes next steps last

-- a root begins at a place: at a record of the home collection, at the caller's, or at one of the collection that it names
abbrev pub BeginsAt : List Collection → Name → Root → Place → Type 0
BeginsAt collections home root.Home place = IsRecordOf collections home place
BeginsAt collections home root.Auth place = place ≡ Caller
BeginsAt collections home root.Body place = ⊥
BeginsAt collections home (root.Look name alias) place = IsRecordOf collections name place

-- a prefix stands at a place: its steps lead there from where its root begins
abbrev pub StandsAt : List Collection → Name → Prefix → Place → Type 0
StandsAt collections home prefix place =
    (start : Place) × BeginsAt collections home prefix.root start × Along (Leads collections) start prefix.steps place

-- ---- sides

-- a modifier fits the kind of a field that it is taken of. Under a `?` a multiple field isn't taken plain, but item by item.
abbrev pub fits : Bool → Modifier → Kind → Bool
fits any modifier.Plain kind = not (any && is_multiple kind)
fits any modifier.Length kind = is_multiple kind
fits any modifier.Lower kind = has_letters kind
fits any modifier.Isset kind = false

-- of a sent field it may also be asked whether it was sent
abbrev pub fits_sent : Bool → Modifier → Kind → Bool
fits_sent any modifier.Isset kind = true
fits_sent any m kind = fits any m kind

-- a modifier fits a header or a part of the query, which has no items to be counted
abbrev pub fits_text : Modifier → Bool
fits_text modifier.Length = false
fits_text _ = true

-- the record at a prefix has a field of that name, whose kind passes a test
abbrev pub HasFieldAt : List Collection → Name → Prefix → Name → (Kind → Bool) → Type 0
HasFieldAt collections home prefix name test =
    (place : Place) × StandsAt collections home prefix place × HasField collections place name test

-- a field of that name may be sent, one of the home collection, and its kind passes a test
abbrev pub MayBeSent : List Collection → Name → Name → (Kind → Bool) → Type 0
MayBeSent collections home name test = (place : Place) × IsRecordOf collections home place × HasField collections place name test

-- the record at a prefix has that name plain, as every record does
abbrev pub HasBuiltIn : List Collection → Name → Prefix → Name → Modifier → Type 0
HasBuiltIn collections home prefix name m =
    (place : Place) × StandsAt collections home prefix place × (is_built_in name ≡ true) × (m ≡ modifier.Plain)

-- a prefix leads by its last step to the items of a multiple field, of the record where it stands before it or of a sent one
abbrev pub HasItems : List Collection → Name → Prefix → Type 0
HasItems collections home prefix =
    (before : List Step) × (name : Name) × (prefix.steps ≡ before ++ step.Item name ∷ [])
    × (HasFieldAt collections home (record { root = prefix.root; steps = before }) name is_multiple
    ⊎ ((prefix.root ≡ root.Body) × (before ≡ []) × MayBeSent collections home name is_multiple))

-- one side of a comparison is typed, under an operator with a `?` or without
abbrev pub IsSideTyped : List Collection → Name → Bool → Leaf → Type 0
IsSideTyped collections home any (leaf.Of prefix name m) = HasBuiltIn collections home prefix name m ⊎ HasFieldAt collections home prefix name (fits any m)
IsSideTyped collections home any (leaf.ItemOf prefix) = HasItems collections home prefix
IsSideTyped collections home any (leaf.Body name m) = MayBeSent collections home name (fits_sent any m)
IsSideTyped collections home any (leaf.Header name m) = fits_text m ≡ true
IsSideTyped collections home any (leaf.Query name m) = fits_text m ≡ true
IsSideTyped collections home any (leaf.Fixed value) = ⊤
IsSideTyped collections home any (leaf.Macro which) = ⊤
IsSideTyped collections home any leaf.Context = ⊤
IsSideTyped collections home any leaf.Method = ⊤

-- ---- filters

-- a side of a comparison, and whether its operator has a `?`
abbrev pub Side : Type 0
Side = Bool × Leaf

-- the sides of one layer, where those of what stands in it are there
abbrev pub sides_step : Resolved-F (List Side) → List Side
sides_step (resolved.Test left any op right) = (any, left) ∷ (any, right) ∷ []
sides_step (resolved.And a b) = a ++ b
sides_step (resolved.Or a b) = a ++ b

-- both sides of each comparison of a filter
abbrev pub sides : Resolved → List Side
sides = fold-Resolved (List Side) sides_step

-- a filter is typed: both sides of each of its comparisons are
unfoldable pub IsTyped : List Collection → Name → Resolved → Type 0
IsTyped collections home filter = All (λ s. IsSideTyped collections home s.0 s.1) (sides filter)
