-- What is known of a record that is put.
use Rattle.std.specs.Prelude.{◌≡◌, ◌≤◌, ℕ, List, Option, Some, IfSome, Ok, All}
use Rattle.pocket_types.specs.Names.{IsMoment}
use Rattle.pocket_types.specs.Profile.{IsProfiled}
use Rattle.pocket_types.specs.Sound.{IsSoundRec}
use Rattle.pocket_types.specs.Within.{AllHoldWithin, LeadsWithin}
use Rattle.pocket_types.specs.declared.ids.Id.{Id}
use Rattle.pocket_types.specs.declared.json.Jv.{Jv}
use Rattle.pocket_types.specs.declared.records.Collection.{Collection}
use Rattle.pocket_types.specs.declared.records.Rec.{Rec}
use Rattle.pocket_types.specs.declared.requests.Ask.{Ask}
use Rattle.pocket_types.specs.declared.world.World.{World}
use Rattle.pocket_ops.specs.Lengths.{row_len}
use Rattle.pocket_tables.specs.Deltas.{FitsWorld}
use Rattle.pocket_tables.specs.Laws.{HasSoundParts}
use Rattle.pocket_tables.specs.Reads.{bytes_of, records_of}
use Rattle.pocket_tables.specs.Worlds.{IsTabled, collection_at}
use Rattle.pocket_change.specs.Changes.{created, puts, updated, world_with}

-- a record that may be put into a world: it is sound by itself and in its place, its delta fits, and no limit is passed with it
pub record MayBePut (w : World) (c : Collection) (r : Rec) : Type 0 where
  pub fits : FitsWorld (puts c.name r) w
  pub alone : IsSoundRec c r
  pub held : AllHoldWithin (world_with w c r) c.fields r.cells
  pub short : row_len c r ≤ 65536
  pub records : records_of (world_with w c r) ≤ 200000
  pub store : bytes_of (world_with w c r) ≤ 268435456

-- a world that can be in tables, of sound collections and records, in which this collection stands
pub record HasCollection (w : World) (c : Collection) : Type 0 where
  pub tabled : IsTabled w
  pub parts : All HasSoundParts w.shelves
  pub there : collection_at w c.name ≡ Some c
  pub targets : All (LeadsWithin w) c.fields

-- what is created may be put
abbrev pub CreatedMayBePut : Type 0
CreatedMayBePut =
    (w : World) (ask : Ask) (c : Collection) (body : Option Jv) (words : List ℕ) (r : Rec)
    → HasCollection w c → IsMoment ask.moment → IfSome body IsProfiled → created w ask c body words ≡ Ok r → MayBePut w c r

-- what is updated may be put, and takes the place of the record with its id
pub record IsRewritten (w : World) (c : Collection) (id : Id) (r : Rec) : Type 0 where
  pub may : MayBePut w c r
  pub id_is : r.id ≡ id

abbrev pub UpdatedMayBePut : Type 0
UpdatedMayBePut =
    (w : World) (ask : Ask) (c : Collection) (id : Id) (body : Option Jv) (r : Rec)
    → HasCollection w c → IsMoment ask.moment → IfSome body IsProfiled → updated w ask c id body ≡ Ok r → IsRewritten w c id r
