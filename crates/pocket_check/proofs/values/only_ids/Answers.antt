use Rattle.std.proofs.Common.{◌≡◌, option_map, subst}
use Rattle.pocket_types.specs.declared.records.Cell.TheVariants as cell
use Rattle.pocket_check.specs.Cells.{only_ids}
use Rattle.pocket_check.proofs.ReadingLemmas.{ids_are}
use Rattle.pocket_check.proofs.values.only_ids.Goals as goal

pub returns-in-Some : goal.returns-in-Some
returns-in-Some c = subst (λ o. option_map (λ ids. cell.Refs ids) o ≡ only_ids c.args.items.now) c.in-Some.is (ids_are c.args.items.now c.in_ok-ids.field-0 c.in_ok-ids.ensures)
