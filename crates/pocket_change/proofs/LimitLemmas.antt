-- Totals that are held at the end of 64 bits tell which limit is passed.
use Rattle.std.proofs.Common.{◌≡◌, ◌≤◌, ◌<◌, ◌^◌, ℕ, true, false, nat_lt, Some, None, refl, arith}
use Rattle.std.proofs.lemmas.Bool.Decides.{nat_tests}
use Rattle.pocket_types.specs.declared.faults.Limit.TheVariants as limit
use Rattle.pocket_types.specs.declared.records.Collection.{Collection}
use Rattle.pocket_types.specs.declared.records.Rec.{Rec}
use Rattle.pocket_types.specs.declared.world.World.{World}
use Rattle.pocket_ops.specs.Lengths.{held, row_len}
use Rattle.pocket_tables.specs.Reads.{bytes_of, records_of}
use Rattle.pocket_change.specs.Limits.{passed_limit}

over : (n a : ℕ) → n < held a → nat_lt n a ≡ true
over n a h = grind (arith, nat_tests)

under : (n a : ℕ) → n < 2 ^ 32 → held a ≤ n → nat_lt n a ≡ false
under n a l h = grind (arith, nat_tests)

pub many_records : (w : World) (c : Collection) (r : Rec) → 200000 < held (records_of w) → passed_limit w c r ≡ Some limit.Records
unfolding passed_limit
many_records w c r h = rw (over 200000 (records_of w) h) refl

pub long_record : (w : World) (c : Collection) (r : Rec) → held (records_of w) ≤ 200000 → 65536 < held (row_len c r) → passed_limit w c r ≡ Some limit.Record
unfolding passed_limit
long_record w c r h k = rw (under 200000 (records_of w) (omega arith) h) (rw (over 65536 (row_len c r) k) refl)

pub full_store : (w : World) (c : Collection) (r : Rec) → held (records_of w) ≤ 200000 → held (row_len c r) ≤ 65536 → 268435456 < held (bytes_of w)
    → passed_limit w c r ≡ Some limit.Store
unfolding passed_limit
full_store w c r h k l =
    rw (under 200000 (records_of w) (omega arith) h) (rw (under 65536 (row_len c r) (omega arith) k) (rw (over 268435456 (bytes_of w) l) refl))

pub no_limit_passed : (w : World) (c : Collection) (r : Rec) → held (records_of w) ≤ 200000 → held (row_len c r) ≤ 65536 → held (bytes_of w) ≤ 268435456
    → passed_limit w c r ≡ None
unfolding passed_limit
no_limit_passed w c r h k l =
    rw (under 200000 (records_of w) (omega arith) h) (rw (under 65536 (row_len c r) (omega arith) k) (rw (under 268435456 (bytes_of w) (omega arith) l) refl))
