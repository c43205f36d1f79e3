-- What a typed filter finds under a choice: nobody, or a record of the place, and there its field with a cell that fits.
use Rattle.std.specs.Prelude.{◌≡◌, ◌⊎◌, ⊤, Bool, true, List, [], ◌∷◌, ◌++◌, Some, None, IfSome}
use Rattle.pocket_types.specs.Kinds.{is_multiple}
use Rattle.pocket_types.specs.Sound.{AllFit, Fits}
use Rattle.pocket_types.specs.Within.{collections_of}
use Rattle.pocket_types.specs.declared.names.Name.{Name}
use Rattle.pocket_types.specs.declared.records.Cell.{Cell}
use Rattle.pocket_types.specs.declared.records.Collection.{Collection}
use Rattle.pocket_types.specs.declared.records.Field.{Field}
use Rattle.pocket_types.specs.declared.records.Kind.{Kind}
use Rattle.pocket_types.specs.declared.records.Rec.{Rec}
use Rattle.pocket_types.specs.declared.requests.Ask.{Ask}
use Rattle.pocket_types.specs.declared.resolved.Leaf.{Leaf}
use Rattle.pocket_types.specs.declared.resolved.Leaf.TheVariants as leaf
use Rattle.pocket_types.specs.declared.resolved.Modifier.{Modifier}
use Rattle.pocket_types.specs.declared.resolved.Modifier.TheVariants as modifier
use Rattle.pocket_types.specs.declared.resolved.Prefix.{Prefix}
use Rattle.pocket_types.specs.declared.resolved.Root.TheVariants as root
use Rattle.pocket_types.specs.declared.resolved.Step.{Step}
use Rattle.pocket_types.specs.declared.resolved.Step.TheVariants as step
use Rattle.pocket_types.specs.declared.world.World.{World}
use Rattle.pocket_resolve.specs.Names.{is_built_in}
use Rattle.pocket_resolve.specs.Paths.{Place, Of, Caller, Nowhere}
use Rattle.pocket_resolve.specs.Typing.{StandsAt, fits, fits_sent}
use Rattle.pocket_meaning.specs.Choosing.{IsIn}
use Rattle.pocket_meaning.specs.Members.{Member}
use Rattle.pocket_meaning.specs.Members as member
use Rattle.pocket_ops.specs.Fields.{field_at}
use Rattle.pocket_meaning.specs.Related.{sent_field}

-- ---- records

-- a record of a place, with its collection: the place's, or for the caller an auth collection of the world. Its cells fit.
abbrev pub IsRecordAt : World → Place → Collection → Rec → Type 0
IsRecordAt w (Of d) c r = (c ≡ d) × AllFit c.fields r.cells
IsRecordAt w Caller c r = IsIn c (collections_of w) × (c.is_auth ≡ true) × AllFit c.fields r.cells
IsRecordAt w Nowhere c r = ⊥

-- nobody, or a record of the place
abbrev pub IsChosenAt : World → Place → Member → Type 0
IsChosenAt w place m = (m ≡ member.Nobody) ⊎ ((c : Collection) × (r : Rec) × (m ≡ member.Record c r) × IsRecordAt w place c r)

-- ---- fields

-- a record has a field of that name, whose kind passes a test, and a cell that fits it
abbrev pub HasCell : Collection → Rec → Name → (Kind → Bool) → Type 0
HasCell c r name test = (f : Field) × (cell : Cell) × (field_at c r name ≡ Some (f, cell)) × Fits f.kind cell × (test f.kind ≡ true)

-- a record of a place has it; the caller's own collection may lack it
abbrev pub HasCellAt : Place → Collection → Rec → Name → (Kind → Bool) → Type 0
HasCellAt (Of d) c r name test = HasCell c r name test
HasCellAt Caller c r name test = HasCell c r name test ⊎ (field_at c r name ≡ None)
HasCellAt Nowhere c r name test = ⊥

-- nobody, or a record of the place that has it
abbrev pub IsChosenWith : World → Place → Name → (Kind → Bool) → Member → Type 0
IsChosenWith w place name test m =
    (m ≡ member.Nobody) ⊎ ((c : Collection) × (r : Rec) × (m ≡ member.Record c r) × IsRecordAt w place c r × HasCellAt place c r name test)

-- a prefix has chosen so, at the place where it stands
abbrev pub FindsField : World → Name → (Prefix → Member) → Prefix → Name → (Kind → Bool) → Type 0
FindsField w home chosen prefix name test =
    (place : Place) × StandsAt (collections_of w) home prefix place × IsChosenWith w place name test (chosen prefix)

-- what was sent under that name, if anything, is for a field of the home collection whose kind passes a test
abbrev pub FindsSent : World → Ask → Name → Name → (Kind → Bool) → Type 0
FindsSent w ask home name test = IfSome (sent_field w home ask.body name) (λ x. test x.0.kind ≡ true)

-- ---- sides

-- what every record has is found plain, where a record is
abbrev pub FindsBuiltIn : World → Name → (Prefix → Member) → Prefix → Name → Modifier → Type 0
FindsBuiltIn w home chosen prefix name m =
    (place : Place) × StandsAt (collections_of w) home prefix place × IsChosenAt w place (chosen prefix) × (is_built_in name ≡ true) × (m ≡ modifier.Plain)

-- before its last step a prefix of items has found a multiple field, of a record or of what was sent
abbrev pub FindsItems : World → Ask → Name → (Prefix → Member) → Prefix → Type 0
FindsItems w ask home chosen prefix =
    (before : List Step) × (name : Name) × (prefix.steps ≡ before ++ step.Item name ∷ [])
    × (FindsField w home chosen (record { root = prefix.root; steps = before }) name is_multiple
    ⊎ ((prefix.root ≡ root.Body) × (before ≡ []) × FindsSent w ask home name is_multiple))

-- one side of a comparison finds what it asks for, of a kind that suits its modifier
abbrev pub Finds : World → Ask → Name → (Prefix → Member) → Bool → Leaf → Type 0
Finds w ask home chosen any (leaf.Of prefix name m) = FindsBuiltIn w home chosen prefix name m ⊎ FindsField w home chosen prefix name (fits any m)
Finds w ask home chosen any (leaf.ItemOf prefix) = FindsItems w ask home chosen prefix
Finds w ask home chosen any (leaf.Body name m) = FindsSent w ask home name (fits_sent any m)
Finds w ask home chosen any (leaf.Header name m) = ⊤
Finds w ask home chosen any (leaf.Query name m) = ⊤
Finds w ask home chosen any (leaf.Fixed value) = ⊤
Finds w ask home chosen any (leaf.Macro which) = ⊤
Finds w ask home chosen any leaf.Context = ⊤
Finds w ask home chosen any leaf.Method = ⊤
