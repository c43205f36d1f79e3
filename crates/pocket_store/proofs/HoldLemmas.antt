-- Cells, one after another.
use Rattle.std.proofs.Common.{◌≡◌, ℕ, zero, suc, ◌<◌, min, List, [], ◌∷◌, length, get_or, drop, arith}
use Rattle.std.specs.Prelude.{◌↔◌}
use Rattle.pocket_types.specs.declared.records.Cell.{Cell}
use Rattle.pocket_types.specs.declared.records.Field.{Field}
use Rattle.pocket_keeper.specs.declared.rows.KeptRow.{KeptRow}
use Rattle.pocket_store.specs.Stores.{AllHoldKept, HoldsKept}

-- where the shorter of fields and cells ends, nothing is held
pub hold_end : (rows : List KeptRow) (n : ℕ) (fs : List Field) (cs : List Cell) → n ≡ min (length fs) (length cs) → AllHoldKept rows (drop n fs) (drop n cs)
hold_end rows zero [] cs e = tt
hold_end rows (suc n) [] cs e = absurd (omega arith)
hold_end rows zero (f ∷ fs) [] e = tt
hold_end rows (suc n) (f ∷ fs) [] e = absurd (omega arith)
hold_end rows zero (f ∷ fs) (c ∷ cs) e = absurd (omega arith)
hold_end rows (suc n) (f ∷ fs) (c ∷ cs) e = hold_end rows n fs cs (omega arith)

-- what is left is the next cell and the rest
pub hold_step : (rows : List KeptRow) (n : ℕ) (fs : List Field) (cs : List Cell) (f : Field) (c : Cell) → n < length fs → n < length cs
    → f ≡ get_or fs n f → c ≡ get_or cs n c
    → AllHoldKept rows (drop n fs) (drop n cs) ↔ (HoldsKept rows f.kind c × AllHoldKept rows (drop (suc n) fs) (drop (suc n) cs))
hold_step rows n [] cs f c p q d e = absurd (omega arith)
hold_step rows n (g ∷ fs) [] f c p q d e = absurd (omega arith)
hold_step rows zero (g ∷ fs) (b ∷ cs) f c p q d e = rw (d, e) (λ h. h, λ h. h)
hold_step rows (suc n) (g ∷ fs) (b ∷ cs) f c p q d e = hold_step rows n fs cs f c (omega arith) (omega arith) d e
