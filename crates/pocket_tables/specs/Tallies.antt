-- Sums over records, and the part of them that stands where changes are.
use Rattle.std.specs.Prelude.{◌≡◌, ◌+◌, ℕ, List, sum_by}
use Rattle.std.specs.Option.{option_map_or}
use Rattle.pocket_types.specs.World.{rec_of}
use Rattle.pocket_types.specs.declared.deltas.RecChange.{RecChange}
use Rattle.pocket_types.specs.declared.records.Collection.{Collection}
use Rattle.pocket_types.specs.declared.records.Rec.{Rec}
use Rattle.pocket_ops.specs.Lengths.{held, row_len}
use Rattle.pocket_tables.specs.declared.totals.Totals.{Totals}
use Rattle.pocket_tables.specs.declared.drawers.Drawer.{Drawer}
use Rattle.pocket_tables.specs.Drawers.{recs_in}
use Rattle.pocket_tables.specs.Keyed.{find_key}
use Rattle.pocket_tables.specs.Worlds.{name_of}

-- what a record counts, by its collection
abbrev pub Weight : Type 0
Weight = Collection → Rec → ℕ

-- each record counts one
abbrev pub one_each : Weight
one_each c r = 1

-- all records of all collections
abbrev pub all_weigh : Weight → List Collection → (List ℕ → List Rec) → ℕ
all_weigh weight cs recs = sum_by (λ c. sum_by (weight c) (recs c.name)) cs

-- the record that stands at a name and an id
abbrev pub standing_weighs : Weight → List Collection → (List ℕ → List Rec) → RecChange → ℕ
standing_weighs weight cs recs change =
    option_map_or (λ c. option_map_or (weight c) (rec_of change.id (recs change.collection)) 0) (find_key name_of change.collection cs) 0

-- the records that stand where changes are
abbrev pub changed_weigh : Weight → List Collection → (List ℕ → List Rec) → List RecChange → ℕ
changed_weigh weight cs recs changes = sum_by (standing_weighs weight cs recs) changes

-- totals tell the number of records, and the bytes of their row texts
pub record Tell (totals : Totals) (count length : ℕ) : Type 0 where
  pub records : totals.records ≡ held count
  pub bytes : totals.bytes ≡ held length

-- totals of all records
abbrev pub TellAll : Totals → List Collection → List Drawer → Type 0
TellAll totals cs drawers = Tell totals (all_weigh one_each cs (recs_in drawers)) (all_weigh row_len cs (recs_in drawers))

-- totals of the records that stand where changes are
abbrev pub TellChanged : Totals → List Collection → List Drawer → List RecChange → Type 0
TellChanged totals cs drawers changes = Tell totals (changed_weigh one_each cs (recs_in drawers) changes) (changed_weigh row_len cs (recs_in drawers) changes)

-- what stays and what leaves are told together, what leaves and what comes each alone, and these are all that there is then
pub record IsExchange (old out into : Totals) (count length : ℕ) : Type 0 where
  pub stay : ℕ
  pub leave : ℕ
  pub come : ℕ
  pub stay_bytes : ℕ
  pub leave_bytes : ℕ
  pub come_bytes : ℕ
  pub before : Tell old (stay + leave) (stay_bytes + leave_bytes)
  pub leaving : Tell out leave leave_bytes
  pub coming : Tell into come come_bytes
  pub records : count ≡ stay + come
  pub bytes : length ≡ stay_bytes + come_bytes
