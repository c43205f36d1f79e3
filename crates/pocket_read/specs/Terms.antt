-- The terms of a sort: paths over relations of at most one record, each with a direction.
use Rattle.std.specs.Prelude.{ℕ, ◌==◌, nat_lt, not, ◌&&◌, ◌||◌, Bool, true, false, List, [], ◌∷◌, ◌++◌, map, fold, length, reverse, codes, Option, Some, None, Result, Ok, if◌then◌else◌, option_and_then, unwrap_or}
use Rattle.std.specs.List.{slice_split}
use Rattle.std.specs.Option.{option_map_or}
use Rattle.std.specs.Result.{result_ok}
use Rattle.std.specs.Str.{bytes_eq}
use Rattle.pocket_types.specs.Chains.{◌>>=◌, or_refuse}
use Rattle.pocket_types.specs.Kinds.{is_multiple, target_of}
use Rattle.pocket_types.specs.declared.expr.Expr.{Expr}
use Rattle.pocket_types.specs.declared.expr.Expr.TheVariants as expr
use Rattle.pocket_types.specs.declared.expr.Op.TheVariants as op
use Rattle.pocket_types.specs.declared.expr.Operand.{Operand}
use Rattle.pocket_types.specs.declared.expr.Operand.TheVariants as operand
use Rattle.pocket_types.specs.declared.expr.Part.{Part}
use Rattle.pocket_types.specs.declared.records.Collection.{Collection}
use Rattle.pocket_types.specs.declared.records.Field.{Field}
use Rattle.pocket_types.specs.declared.resolved.Leaf.{Leaf}
use Rattle.pocket_types.specs.declared.resolved.Leaf.TheVariants as leaf
use Rattle.pocket_types.specs.declared.names.Name.{Name}
use Rattle.pocket_types.specs.declared.resolved.Prefix.{Prefix}
use Rattle.pocket_types.specs.declared.resolved.Resolved.{Resolved}
use Rattle.pocket_types.specs.declared.resolved.Resolved.TheVariants as resolved
use Rattle.pocket_types.specs.declared.resolved.Step.{Step}
use Rattle.pocket_types.specs.declared.resolved.Step.TheVariants as step
use Rattle.pocket_resolve.specs.Fields.{collection_named, field_named}
use Rattle.pocket_resolve.specs.Filters.{home_of, resolution}
use Rattle.pocket_resolve.specs.declared.purpose.Purpose.{Purpose}
use Rattle.pocket_read.specs.declared.faults.ReadFault.{ReadFault}
use Rattle.pocket_read.specs.declared.faults.ReadFault.TheVariants.{BadSort}
use Rattle.pocket_read.specs.declared.terms.SortTerm.{SortTerm}

-- ---- texts

-- a text without the spaces at its front, and at both ends
abbrev pub unindented : List ℕ → List ℕ
unindented [] = []
unindented (b ∷ bs) = if b == 32 then unindented bs else b ∷ bs

abbrev pub trimmed : List ℕ → List ℕ
trimmed text = reverse (unindented (reverse (unindented text)))

-- the three words that are literals, and no paths
abbrev pub is_literal : List ℕ → Bool
is_literal text = bytes_eq text (codes "true") || bytes_eq text (codes "false") || bytes_eq text (codes "null")

-- ---- paths

abbrev pub part_named : List ℕ → Part
part_named name = record { name = name; suffix = None }

-- The path whose names stand between dots. What isn't of a name's form, as one with a suffix or behind `@`, is no field's name.
abbrev pub path_of : List ℕ → Operand
path_of text = operand.Ident false (map part_named (slice_split (λ b. b == 46) text))

-- a comparison that asks of a path alone
abbrev pub asking_of : Operand → Expr
asking_of path = expr.Test path false op.Eq operand.Null

-- whether a field is a relation of at most one record
abbrev pub is_single_relation : Field → Bool
is_single_relation f = option_map_or (λ target. not (is_multiple f.kind)) (target_of f.kind) false

-- the field of a step, where it goes forward from a collection
abbrev pub step_field : Option Collection → Step → Option Field
step_field here (step.Forward name) = option_and_then (λ c. field_named c name) here
step_field here _ = None

-- the collection that a field leads to
abbrev pub field_target : List Collection → Field → Option Collection
field_target collections f = option_and_then (collection_named collections) (target_of f.kind)

-- whether each step, the first from this collection, goes over a relation of at most one record
abbrev pub are_single : List Collection → Option Collection → List Step → Bool
are_single collections here [] = true
are_single collections here (s ∷ ss) =
    option_map_or (λ f. is_single_relation f && are_single collections (field_target collections f) ss) (step_field here s) false

-- ---- terms

-- the term of a path to a field, where a list can be sorted by it
abbrev pub term_to : List Collection → Purpose → Bool → Prefix → Name → Option SortTerm
term_to collections purpose falling path field =
    if are_single collections (collection_named collections (home_of purpose)) path.steps
    then Some (record { path = path; field = field; falling = falling })
    else None

-- the term that a side of a comparison is
abbrev pub side_term : List Collection → Purpose → Bool → Leaf → Option SortTerm
side_term collections purpose falling (leaf.Of prefix field modifier) = term_to collections purpose falling prefix field
side_term collections purpose falling _ = None

-- the term that a comparison's left side is
abbrev pub test_term : List Collection → Purpose → Bool → Resolved → Option SortTerm
test_term collections purpose falling (resolved.Test left any o right) = side_term collections purpose falling left
test_term collections purpose falling _ = None

-- the term of a comparison that was resolved or not
abbrev pub found_term : List Collection → Purpose → Bool → Option Resolved → Option SortTerm
found_term collections purpose falling found = option_and_then (test_term collections purpose falling) found

-- the term of a path, whose names are looked up as those of a client's filter are
unfoldable pub path_term : List Collection → Purpose → Bool → List ℕ → Option SortTerm
path_term collections purpose falling text =
    if is_literal text then None
    else found_term collections purpose falling (result_ok (resolution collections purpose (asking_of (path_of text))))

-- what follows a byte, where a text begins with it
abbrev pub behind_byte : ℕ → List ℕ → Option (List ℕ)
behind_byte sign [] = None
behind_byte sign (b ∷ bs) = if b == sign then Some bs else None

-- a path behind at most one sign: `-` for falling, `+` for rising
abbrev pub signed_term : List Collection → Purpose → List ℕ → Option SortTerm
signed_term collections purpose text =
    option_map_or (path_term collections purpose true) (behind_byte 45 text) (path_term collections purpose false (unwrap_or (behind_byte 43 text) text))

-- the term of this number; there are 8 at most
unfoldable pub term_at : List Collection → Purpose → ℕ → List ℕ → Result SortTerm ReadFault
term_at collections purpose n text = or_refuse (if nat_lt n 8 then signed_term collections purpose (trimmed text) else None) (BadSort n)

-- one term more; its number is how many stand before it
abbrev pub with_term : List Collection → Purpose → Result (List SortTerm) ReadFault → List ℕ → Result (List SortTerm) ReadFault
with_term collections purpose before text = do
  terms ← before
  term ← term_at collections purpose (length terms) text
  Ok (terms ++ term ∷ [])

-- the terms of a sort's text, which stand between commas; of several bad ones the first is named
abbrev pub terms_of_text : List Collection → Purpose → List ℕ → Result (List SortTerm) ReadFault
terms_of_text collections purpose text = fold (with_term collections purpose) (Ok []) (slice_split (λ b. b == 44) text)

-- the terms of a client's sort, where it sent one
abbrev pub sort_terms : List Collection → Purpose → Option (List ℕ) → Result (List SortTerm) ReadFault
sort_terms collections purpose None = Ok []
sort_terms collections purpose (Some text) = terms_of_text collections purpose text
