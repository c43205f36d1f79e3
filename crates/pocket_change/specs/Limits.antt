-- The limits that a record which is put may pass.
use Rattle.std.specs.Prelude.{nat_lt, Bool, List, [], ◌∷◌, find, Option, option_map}
use Rattle.pocket_types.specs.declared.faults.Limit.{Limit}
use Rattle.pocket_types.specs.declared.faults.Limit.TheVariants as limit
use Rattle.pocket_types.specs.declared.records.Collection.{Collection}
use Rattle.pocket_types.specs.declared.records.Rec.{Rec}
use Rattle.pocket_types.specs.declared.world.World.{World}
use Rattle.pocket_ops.specs.Lengths.{row_len}
use Rattle.pocket_tables.specs.Reads.{bytes_of, records_of}

-- the limits in their order, each with whether it is passed in the world in which the record is put
abbrev pub limits_of : World → Collection → Rec → List (Bool × Limit)
limits_of w c r =
    (nat_lt 200000 (records_of w), limit.Records) ∷ (nat_lt 65536 (row_len c r), limit.Record) ∷ (nat_lt 268435456 (bytes_of w), limit.Store) ∷ []

-- the first limit that is passed
unfoldable pub passed_limit : World → Collection → Rec → Option Limit
passed_limit w c r = option_map (λ x. x.1) (find (λ x. x.0) (limits_of w c r))
