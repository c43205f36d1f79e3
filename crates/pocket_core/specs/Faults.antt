-- Faults of the store as faults of an opening.
use Rattle.pocket_store.specs.declared.stored.StoreFault.{StoreFault}
use Rattle.pocket_store.specs.declared.stored.StoreFault.TheVariants as store
use Rattle.pocket_core.specs.declared.opening.StartFault.{StartFault}
use Rattle.pocket_core.specs.declared.opening.StartFault.TheVariants as start

abbrev pub start_fault : StoreFault → StartFault
start_fault (store.BadStore key) = start.BadStore key
start_fault store.Memory = start.Memory
