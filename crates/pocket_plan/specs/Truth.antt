-- What a plan answers.
use Rattle.std.specs.Prelude.{Bool, Option, Some, None}
use Rattle.std.specs.Option.{option_map_or}
use Rattle.pocket_types.specs.World.{shelf_named}
use Rattle.pocket_types.specs.declared.names.Name.{Name}
use Rattle.pocket_types.specs.declared.records.Rec.{Rec}
use Rattle.pocket_types.specs.declared.requests.Ask.{Ask}
use Rattle.pocket_types.specs.declared.resolved.Resolved.{Resolved}
use Rattle.pocket_types.specs.declared.world.World.{World}
use Rattle.pocket_meaning.specs.Meaning.{holds}
use Rattle.pocket_plan.specs.Cutting.{open_rec, guarded_world}
use Rattle.pocket_plan.specs.declared.guard.Guard.{Guard}

-- a record without the hidden fields of its collection `home`
abbrev pub open_home : World → Name → Rec → Rec
open_home w home r = option_map_or (λ s. open_rec s.collection r) (shelf_named home w.shelves) r

-- a plan's filter in the world, or in what a guard leaves of it: there the record that is judged stays, without hidden fields
abbrev pub plan_truth : World → Option Guard → Ask → Name → Rec → Resolved → Bool
plan_truth w None ask home r f = holds w ask home r f
plan_truth w (Some g) ask home r f = holds (guarded_world w g ask) ask home (open_home w home r) f
