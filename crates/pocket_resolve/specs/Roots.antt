-- How a path begins.
use Rattle.std.specs.Prelude.{ℕ, Bool, true, false, ◌&&◌, ◌||◌, List, [], ◌∷◌, codes, Option, Some, None, unwrap_or, option_and_then, Result, Ok, Err, if◌then◌else◌}
use Rattle.std.specs.Str.{bytes_eq}
use Rattle.pocket_types.specs.Kinds.{target_of}
use Rattle.pocket_types.specs.declared.expr.Operand.{Operand}
use Rattle.pocket_types.specs.declared.expr.Operand.TheVariants as operand
use Rattle.pocket_types.specs.declared.expr.Part.{Part}
use Rattle.pocket_types.specs.declared.faults.ResolveFault.{ResolveFault}
use Rattle.pocket_types.specs.declared.faults.ResolveFault.TheVariants as fault
use Rattle.pocket_types.specs.declared.names.Name.{Name}
use Rattle.pocket_types.specs.declared.records.Field.{Field}
use Rattle.pocket_types.specs.declared.records.Kind.{Kind}
use Rattle.pocket_types.specs.declared.resolved.Leaf.{Leaf}
use Rattle.pocket_types.specs.declared.resolved.Leaf.TheVariants as leaf
use Rattle.pocket_types.specs.declared.resolved.Modifier.{Modifier}
use Rattle.pocket_types.specs.declared.resolved.Modifier.TheVariants as modifier
use Rattle.pocket_types.specs.declared.resolved.Prefix.{Prefix}
use Rattle.pocket_types.specs.declared.resolved.Root.{Root}
use Rattle.pocket_types.specs.declared.resolved.Root.TheVariants as root
use Rattle.pocket_types.specs.declared.resolved.Step.TheVariants as step
use Rattle.pocket_types.specs.declared.values.Value.TheVariants as value
use Rattle.pocket_types.specs.Chains.{◌>>=◌, or_refuse, refuse}
use Rattle.pocket_resolve.specs.Fields.{collection_named, field_named}
use Rattle.pocket_resolve.specs.Names.{is_built_in, requested_part, macro_named}
use Rattle.pocket_resolve.specs.declared.names.Requested.{Requested}
use Rattle.pocket_resolve.specs.declared.names.Requested.TheVariants as requested
use Rattle.pocket_resolve.specs.Paths.{Setting, place_named, no_suffix, reading_of, along}
use Rattle.pocket_resolve.specs.declared.ends.Reading.{Reading}
use Rattle.pocket_resolve.specs.declared.ends.Reading.TheVariants.{As, Items}
use Rattle.pocket_resolve.specs.Paths as place

abbrev pub bare : Root → Prefix
bare root = record { root = root; steps = [] }

-- the first part and those behind it
abbrev pub first_part : List Part → Option (Part × List Part)
first_part [] = None
first_part (part ∷ parts) = Some (part, parts)

-- behind what has no names: a part there is no field
abbrev pub no_part : List Part → Result (Unit {0}) ResolveFault
no_part [] = Ok tt
no_part (part ∷ parts) = Err (fault.NoField part.name)

-- what has no names behind it
abbrev pub alone : Leaf → List Part → Result Leaf ResolveFault
alone leaf parts = do
  _ ← no_part parts
  Ok leaf

-- ---- headers and the query

unfoldable pub value_modifier : Option (List ℕ) → Option Modifier
value_modifier None = Some modifier.Plain
value_modifier (Some suffix) =
    if bytes_eq suffix (codes "lower") then Some modifier.Lower
    else (if bytes_eq suffix (codes "isset") then Some modifier.Isset
    else None)

-- the name behind `headers` or `query`, and what is taken of its value
unfoldable pub value_name : Setting → List ℕ → List Part → Result (List ℕ × Modifier) ResolveFault
value_name s behind [] = Err (fault.NoField behind)
value_name s behind (part ∷ []) = do
  modifier ← or_refuse (value_modifier part.suffix) (fault.BadModifier s.operand)
  Ok (part.name, modifier)
value_name s behind (part ∷ next ∷ parts) = do
  _ ← no_suffix s part
  Err (fault.NoField next.name)

unfoldable pub header : Setting → List ℕ → List Part → Result Leaf ResolveFault
header s behind parts = do
  found ← value_name s behind parts
  Ok (leaf.Header found.0 found.1)

unfoldable pub query : Setting → List ℕ → List Part → Result Leaf ResolveFault
query s behind parts = do
  found ← value_name s behind parts
  Ok (leaf.Query found.0 found.1)

-- ---- the body

-- a field of the home collection
abbrev pub body_field : Setting → List ℕ → Option Field
body_field s name =
    if is_built_in name then None else option_and_then (λ c. field_named c name) (collection_named s.collections s.home)

-- of a sent field also whether it was sent
unfoldable pub body_reading : Bool → Kind → Option (List ℕ) → Option Reading
body_reading any kind None = reading_of any kind None
body_reading any kind (Some suffix) =
    if bytes_eq suffix (codes "isset") then Some (As modifier.Isset) else reading_of any kind (Some suffix)

abbrev pub body_leaf : Name → Reading → Leaf
body_leaf name (As modifier) = leaf.Body name modifier
body_leaf name Items = leaf.ItemOf (record { root = root.Body; steps = step.Item name ∷ [] })

-- a sent field at the end
unfoldable pub sent_end : Setting → Part → Result Leaf ResolveFault
sent_end s part = do
  field ← or_refuse (body_field s part.name) (fault.NoField part.name)
  reading ← or_refuse (body_reading s.any field.kind part.suffix) (fault.BadModifier s.operand)
  Ok (body_leaf field.name reading)

-- a sent field that another part follows: behind a relation of the body nothing stands
unfoldable pub sent_on : Setting → Part → Part → Result Leaf ResolveFault
sent_on s part next = do
  field ← or_refuse (body_field s part.name) (fault.NoField part.name)
  _ ← or_refuse (target_of field.kind) (fault.NotRelation part.name)
  _ ← no_suffix s part
  Err (fault.NoField next.name)

-- a sent field, behind `body`
unfoldable pub sent_field : Setting → List ℕ → List Part → Result Leaf ResolveFault
sent_field s behind [] = Err (fault.NoField behind)
sent_field s behind (part ∷ []) = sent_end s part
sent_field s behind (part ∷ next ∷ parts) = sent_on s part next

-- ---- the table of beginnings

abbrev pub request_path : Requested → Setting → List ℕ → List Part → Result Leaf ResolveFault
request_path requested.Context s behind parts = alone leaf.Context parts
request_path requested.Method s behind parts = alone leaf.Method parts
request_path requested.Headers s behind parts = header s behind parts
request_path requested.Query s behind parts = query s behind parts
request_path requested.Body s behind parts = sent_field s behind parts
request_path requested.Auth s behind parts = along s behind place.Caller (bare root.Auth) parts

-- `@request` and the parts behind it
unfoldable pub of_request : Setting → Part → List Part → Result Leaf ResolveFault
of_request s first parts = do
  _ ← no_suffix s first
  second ← or_refuse (first_part parts) (fault.NoField first.name)
  which ← or_refuse (requested_part second.0.name) (fault.NoField second.0.name)
  _ ← no_suffix s second.0
  request_path which s second.0.name second.1

-- `@collection` and the parts behind it: a collection, with its alias, and a path
unfoldable pub of_collection : Setting → Part → List Part → Result Leaf ResolveFault
of_collection s first parts = do
  _ ← no_suffix s first
  second ← or_refuse (first_part parts) (fault.NoField first.name)
  collection ← or_refuse (collection_named s.collections second.0.name) (fault.NoCollection second.0.name)
  along s second.0.name (place.Of collection) (bare (root.Look collection.name (unwrap_or second.0.suffix []))) second.1

-- a macro, behind which nothing stands
unfoldable pub of_macro : Setting → Part → List Part → Result Leaf ResolveFault
of_macro s first parts = do
  which ← or_refuse (macro_named first.name) (fault.NoField first.name)
  _ ← no_suffix s first
  alone (leaf.Macro which) parts

-- whether a path with `@` begins with `request` or `collection`
abbrev pub is_privileged : List Part → Bool
is_privileged [] = false
is_privileged (part ∷ parts) = bytes_eq part.name (codes "request") || bytes_eq part.name (codes "collection")

-- a path behind `@` by its first part
unfoldable pub of_first : Setting → Part → List Part → Result Leaf ResolveFault
of_first s first parts =
    if bytes_eq first.name (codes "request") then of_request s first parts
    else (if bytes_eq first.name (codes "collection") then of_collection s first parts
    else of_macro s first parts)

-- a path behind `@`
unfoldable pub of_sign : Setting → List Part → Result Leaf ResolveFault
of_sign s [] = Err (fault.NoField [])
of_sign s (first ∷ parts) = of_first s first parts

-- a path. What begins with `@request` or `@collection` a client may not use, whatever follows.
unfoldable pub of_path : Setting → Bool → List Part → Result Leaf ResolveFault
of_path s false parts = along s [] (place_named s.collections s.home) (bare root.Home) parts
of_path s true parts = do
  _ ← refuse (s.guarded && is_privileged parts) (fault.SuperuserOnly s.operand)
  of_sign s parts

-- one side of a comparison
unfoldable pub side : Setting → Operand → Result Leaf ResolveFault
side s (operand.Ident sign parts) = of_path s sign parts
side s (operand.Text text) = Ok (leaf.Fixed (value.Text text))
side s (operand.Num n) = Ok (leaf.Fixed (value.Num n))
side s (operand.Flag b) = Ok (leaf.Fixed (value.Flag b))
side s operand.Null = Ok (leaf.Fixed value.Nothing)
