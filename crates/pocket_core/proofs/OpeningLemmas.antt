-- What is opened from rows.
use Rattle.std.proofs.Common.{◌≡◌, ℕ, List, [], Option, Some, None, refl, subst, arith}
use Rattle.std.specs.Prelude.{IfSome}
use Rattle.pocket_keeper.specs.declared.rows.KeptRow.{KeptRow}
use Rattle.pocket_store.specs.SoundStates.{IsSoundStored}
use Rattle.pocket_store.specs.Stores.{IsFaultOf, IsStoreOf}
use Rattle.pocket_store.specs.declared.stored.Stored.{Stored}
use Rattle.pocket_store.specs.declared.stored.StoreFault.{StoreFault}
use Rattle.pocket_store.specs.declared.stored.StoreFault.TheVariants as store
use Rattle.pocket_core.specs.Faults.{start_fault}
use Rattle.pocket_core.specs.Opening.{IfTold, IsOpened, IsStartFault}
use Rattle.pocket_states.specs.States.{IsSoundState, opened_state}

-- a sound store is a sound state without clients
pub opened_sound : (stored : Stored) (admin : List ℕ) → IsSoundStored stored → IsSoundState (opened_state stored admin)
opened_sound stored admin h = record {
  kept = h;
  few = omega arith;
  differ = λ i j d before within. absurd (omega (arith, within));
  there = λ k d within. absurd (omega (arith, within));
}

-- what was read of the rows that were given is so of those that are told
module _ (told : Option (List KeptRow)) (rows : List KeptRow) (same : IfSome told (λ kept. rows ≡ kept)) where
  told_as_given : (P : List KeptRow → Type 0) → P rows → IfTold told P
  told_as_given P h = by told same
    where
      by : (t : Option (List KeptRow)) → IfSome t (λ kept. rows ≡ kept) → IfTold t P
      by None is = tt
      by (Some kept) is = subst P is h

  pub is_opened : (stored : Stored) (admin : List ℕ) → IsStoreOf rows stored → IsSoundStored stored
      → IsOpened told admin (record { opening = opened_state stored admin; journal = [] })
  is_opened stored admin of sound = record {
    token = refl;
    clients = refl;
    journal = refl;
    sound = opened_sound stored admin sound;
    kept = told_as_given (λ kept. IsStoreOf kept stored) of;
  }

  pub is_refused : (before now : ℕ) (fault : StoreFault) → IsFaultOf rows fault → IsStartFault told before now (start_fault fault)
  is_refused before now (store.BadStore key) h = told_as_given (λ kept. IsFaultOf kept (store.BadStore key)) h
  is_refused before now store.Memory h = tt
