-- What is known of the cells that a body sends, and of a record with nothing wrong.
use Rattle.std.specs.Prelude.{◌≡◌, List, [], length, Ok, Some, All}
use Rattle.std.specs.Result.{result_err}
use Rattle.pocket_types.specs.Profile.{IsProfiled}
use Rattle.pocket_types.specs.Sound.{AllFit, IsSoundCollection}
use Rattle.pocket_types.specs.Within.{AllHoldWithin, LeadsWithin}
use Rattle.pocket_types.specs.declared.json.Jv.{Jv}
use Rattle.pocket_types.specs.declared.records.Cell.{Cell}
use Rattle.pocket_types.specs.declared.records.Collection.{Collection}
use Rattle.pocket_types.specs.declared.records.Rec.{Rec}
use Rattle.pocket_types.specs.declared.requests.Caller.{Caller}
use Rattle.pocket_types.specs.declared.requests.Sent.{Sent}
use Rattle.pocket_types.specs.declared.world.World.{World}
use Rattle.pocket_tables.specs.Worlds.{HasShape, IsTabled, shapes_of}
use Rattle.pocket_check.specs.Bodies.{sent, sent_over, with_sent}
use Rattle.pocket_check.specs.Cells.{zero_cells}
use Rattle.pocket_check.specs.Validity.{faults_of}

-- cells that were never set fit
abbrev pub ZeroCellsFit : Type 0
ZeroCellsFit = (c : Collection) → IsSoundCollection c → AllFit c.fields (zero_cells c)

-- a body read over cells that fit: these fields are sent, and the record has the old cells with them
pub record IsSentOver (who : Caller) (c : Collection) (old : List Cell) (body : Jv) (fields : List Sent) (r : Rec) : Type 0 where
  pub sound : IsSoundCollection c
  pub old_fit : AllFit c.fields old
  pub profile : IsProfiled body
  pub read : sent_over who c old body ≡ Ok fields
  pub cells : r.cells ≡ with_sent fields c old

-- the record has the shape of its collection
abbrev pub SentCellsHaveShape : Type 0
SentCellsHaveShape =
    (who : Caller) (c : Collection) (old : List Cell) (body : Jv) (fields : List Sent) (r : Rec)
    → IsSentOver who c old body fields r → HasShape (shapes_of c) r

-- with nothing wrong its cells fit
abbrev pub FaultlessCellsFit : Type 0
FaultlessCellsFit =
    (w : World) (who : Caller) (c : Collection) (old : List Cell) (body : Jv) (fields : List Sent) (r : Rec)
    → IsSentOver who c old body fields r → faults_of w c r ≡ [] → AllFit c.fields r.cells

-- the relations of a record with nothing wrong lead to records, where those of its collection lead to collections
abbrev pub FaultlessRelationsLeadWithin : Type 0
FaultlessRelationsLeadWithin =
    (w : World) (c : Collection) (r : Rec) → IsTabled w → All (LeadsWithin w) c.fields → faults_of w c r ≡ [] → AllHoldWithin w c.fields r.cells

-- which fault an update's body has doesn't depend on the cells that the record has
abbrev pub OldCellsMakeNoFault : Type 0
OldCellsMakeNoFault =
    (who : Caller) (c : Collection) (old other : Rec) (body : Jv)
    → length old.cells ≡ length other.cells → result_err (sent who c (Some old) body) ≡ result_err (sent who c (Some other) body)
