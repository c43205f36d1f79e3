use Rattle.pocket_tables.specs.Worlds.{shelf_name}
use Rattle.pocket_tables.proofs.WorldLemmas.{each_found}
use Rattle.pocket_tables.proofs.laws.shelves_are_found.Goals as goal

pub returns : goal.returns
returns c = λ w tabled. each_found shelf_name w.shelves tabled.names
