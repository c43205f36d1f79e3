-- Collections and fields: which there are, and of what kind a field is.
use Rattle.std.specs.Prelude.{ℕ, Bool, true, false, not, ◌&&◌, List, [], ◌∷◌, Option, Some, None, find, filter_map, option_and_then, nat_le, if◌then◌else◌}
use Rattle.std.specs.List.{list_all}
use Rattle.std.specs.Str.{bytes_eq}
use Rattle.pocket_types.specs.Kinds.{is_multiple, target_of}
use Rattle.pocket_types.specs.declared.names.Name.{Name}
use Rattle.pocket_types.specs.declared.records.Collection.{Collection}
use Rattle.pocket_types.specs.declared.records.Field.{Field}
use Rattle.pocket_types.specs.declared.records.Kind.{Kind}
use Rattle.pocket_types.specs.declared.records.Kind.TheVariants as kind

abbrev pub collection_named : List Collection → List ℕ → Option Collection
collection_named collections name = find (λ c. bytes_eq c.name name) collections

abbrev pub field_named : Collection → List ℕ → Option Field
field_named c name = find (λ f. bytes_eq f.name name) c.fields

-- whether `:lower` stands on a field: a text, or a select of one item
abbrev pub has_letters : Kind → Bool
has_letters (kind.Text min max) = true
has_letters (kind.Select values most) = nat_le most 1
has_letters _ = false

-- the types of fields, without their options
abbrev pub same_type : Kind → Kind → Bool
same_type (kind.Text a b) (kind.Text c d) = true
same_type (kind.Number a b) (kind.Number c d) = true
same_type kind.Flag kind.Flag = true
same_type (kind.Date a b) (kind.Date c d) = true
same_type (kind.Select a b) (kind.Select c d) = true
same_type (kind.Json a) (kind.Json b) = true
same_type (kind.Relation a b c) (kind.Relation d e f) = true
same_type _ _ = false

abbrev pub same_answer : Bool → Bool → Bool
same_answer true b = b
same_answer false b = not b

abbrev pub same_target : Option Name → Option Name → Bool
same_target None None = true
same_target (Some a) (Some b) = bytes_eq a b
same_target _ _ = false

-- the same type, target and multiplicity
abbrev pub is_like : Kind → Kind → Bool
is_like a b = same_type a b && same_answer (is_multiple a) (is_multiple b) && same_target (target_of a) (target_of b)

-- a field of a collection, where that is an auth collection
abbrev pub auth_field : List ℕ → Collection → Option Field
auth_field name c = if c.is_auth then field_named c name else None

abbrev pub first : {X : Type 0} → List X → Option X
first [] = None
first (x ∷ xs) = Some x

-- a field of the caller's record: the first of those of the auth collections, where all are like it
unfoldable pub caller_field : List Collection → List ℕ → Option Field
caller_field collections name =
    let fields = filter_map (auth_field name) collections in
    option_and_then (λ f. if list_all (λ g. is_like f.kind g.kind) fields then Some f else None) (first fields)
