-- What the kind of a field says of its cells.
use Rattle.std.specs.Prelude.{ℕ, Bool, nat_lt, Option, Some, None}
use Rattle.pocket_types.specs.declared.names.Name.{Name}
use Rattle.pocket_types.specs.declared.records.Kind.{Kind}
use Rattle.pocket_types.specs.declared.records.Kind.TheVariants as kind

-- the most items that a field may hold
abbrev pub most_of : Kind → ℕ
most_of (kind.Select values most) = most
most_of (kind.Relation target most cascade) = most
most_of _ = 1

-- whether a field may hold several items
abbrev pub is_multiple : Kind → Bool
is_multiple k = nat_lt 1 (most_of k)

-- the collection that a relation leads to
abbrev pub target_of : Kind → Option Name
target_of (kind.Relation target most cascade) = Some target
target_of _ = None
