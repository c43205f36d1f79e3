-- The order of a list: by the values of its terms in what the caller sees, ties by id.
use Rattle.std.specs.Prelude.{ℕ, Bool, List, [], ◌∷◌, map, drop, if◌then◌else◌}
use Rattle.std.specs.Cmp.Lexicographic.{slice_cmp}
use Rattle.std.specs.Option.{option_map_or}
use Rattle.std.specs.Ordering.{bool_cmp, int_cmp, is_lt, nat_cmp, ordering_reverse, ordering_then}
use Rattle.std.specs.declared.cmp.Ordering.{Ordering}
use Rattle.std.specs.declared.cmp.Ordering.TheVariants.{Equal}
use Rattle.pocket_types.specs.declared.ids.Id.{Id}
use Rattle.pocket_types.specs.declared.names.Name.{Name}
use Rattle.pocket_types.specs.declared.records.Rec.{Rec}
use Rattle.pocket_types.specs.declared.requests.Ask.{Ask}
use Rattle.pocket_types.specs.declared.resolved.Modifier.TheVariants as modifier
use Rattle.pocket_types.specs.declared.resolved.Root.TheVariants as root
use Rattle.pocket_types.specs.declared.resolved.Step.{Step}
use Rattle.pocket_types.specs.declared.resolved.Step.TheVariants as step
use Rattle.pocket_types.specs.declared.values.Value.{Value}
use Rattle.pocket_types.specs.declared.values.Value.TheVariants as value
use Rattle.pocket_types.specs.declared.world.World.{World}
use Rattle.pocket_meaning.specs.Members.{Member}
use Rattle.pocket_meaning.specs.Members as member
use Rattle.pocket_ops.specs.Fields.{field_at}
use Rattle.pocket_meaning.specs.Related.{held, root_list}
use Rattle.pocket_meaning.specs.Values.{member_value}
use Rattle.pocket_gate.specs.Seen.{seen_home, seen_world}
use Rattle.pocket_read.specs.declared.keys.SortKey.{SortKey}
use Rattle.pocket_read.specs.declared.terms.SortTerm.{SortTerm}

-- ---- values

-- the first member of a list, or nobody
abbrev pub first_or_nobody : List Member → Member
first_or_nobody [] = member.Nobody
first_or_nobody (m ∷ ms) = m

-- the record to which a relation leads
abbrev pub next_on : World → Step → Member → Member
next_on w (step.Forward name) (member.Record c r) = first_or_nobody (option_map_or (held w) (field_at c r name) [])
next_on w _ _ = member.Nobody

-- the record at the end of steps
abbrev pub end_of : World → List Step → Member → Member
end_of w [] m = m
end_of w (s ∷ ss) m = end_of w ss (next_on w s m)

-- a record of the collection `home` as its caller sees it, whether or not the view rule admits it
abbrev pub start_of : World → Ask → Name → Rec → Member
start_of w ask home r = first_or_nobody (root_list (seen_world w ask) ask home (seen_home w ask home r) root.Home)

-- the value by which a term sorts a record, in what the caller sees; Nothing where a relation leads to nobody there
unfoldable pub sort_value : World → Ask → Name → Rec → SortTerm → Value
sort_value w ask home r t = member_value (end_of (seen_world w ask) t.path.steps (start_of w ask home r)) t.field modifier.Plain

-- what a record is sorted by
abbrev pub key_of : World → Ask → Name → List SortTerm → Rec → SortKey
key_of w ask home terms r = record { values = map (sort_value w ask home r) terms; id = r.id }

-- ---- order

-- Nothing before flags before numbers before texts
abbrev pub rank : Value → ℕ
rank value.Nothing = 0
rank (value.Flag b) = 1
rank (value.Num n) = 2
rank (value.Text t) = 3

-- flags false first, numbers by size, texts by bytes
abbrev pub value_cmp : Value → Value → Ordering
value_cmp (value.Flag a) (value.Flag b) = bool_cmp a b
value_cmp (value.Num a) (value.Num b) = int_cmp a b
value_cmp (value.Text a) (value.Text b) = slice_cmp nat_cmp a b
value_cmp a b = nat_cmp (rank a) (rank b)

-- the other way round where a term falls
abbrev pub directed : Bool → Ordering → Ordering
directed falling o = if falling then ordering_reverse o else o

abbrev pub first_value : List Value → Value
first_value [] = value.Nothing
first_value (v ∷ vs) = v

-- the values of terms, one after another: the first that differ decide
abbrev pub values_cmp : List SortTerm → List Value → List Value → Ordering
values_cmp [] xs ys = Equal
values_cmp (t ∷ ts) xs ys =
    ordering_then (directed t.falling (value_cmp (first_value xs) (first_value ys))) (values_cmp ts (drop 1 xs) (drop 1 ys))

-- ties go by id, rising whatever the terms
abbrev pub key_cmp : List SortTerm → SortKey → SortKey → Ordering
key_cmp terms a b = ordering_then (values_cmp terms a.values b.values) (slice_cmp nat_cmp a.id b.id)

abbrev pub stands_before : List SortTerm → SortKey → SortKey → Bool
stands_before terms a b = is_lt (key_cmp terms a b)

-- an item put behind those that stand before it
abbrev pub insert_by : {T : Type 0} → (T → T → Bool) → T → List T → List T
insert_by before x [] = x ∷ []
insert_by before x (y ∷ ys) = if before y x then y ∷ insert_by before x ys else x ∷ y ∷ ys

-- the items in order
abbrev pub in_order : {T : Type 0} → (T → T → Bool) → List T → List T
in_order before [] = []
in_order before (x ∷ xs) = insert_by before x (in_order before xs)

-- what records are sorted by, as terms order them
abbrev pub sorted_keys : World → Ask → Name → List SortTerm → List Rec → List SortKey
sorted_keys w ask home terms recs = in_order (stands_before terms) (map (key_of w ask home terms) recs)

-- the ids of records as terms order them
abbrev pub sorted_ids : World → Ask → Name → List SortTerm → List Rec → List Id
sorted_ids w ask home terms recs = map (λ k. k.id) (sorted_keys w ask home terms recs)
