-- The same sight gives the same truth.
use Rattle.std.proofs.Common.{◌≡◌, List, ap, ◌∙◌}
use Rattle.std.specs.Prelude.{Option}
use mathlib.Core.Path.{fun_ext}
use Rattle.pocket_types.specs.declared.names.Name.{Name}
use Rattle.pocket_types.specs.declared.records.Cell.{Cell}
use Rattle.pocket_types.specs.declared.records.Field.{Field}
use Rattle.pocket_types.specs.declared.requests.Ask.{Ask}
use Rattle.pocket_types.specs.declared.resolved.Modifier.{Modifier}
use Rattle.pocket_types.specs.declared.resolved.Root.{Root}
use Rattle.pocket_types.specs.declared.resolved.Step.{Step}
use Rattle.pocket_types.specs.declared.values.Value.{Value}
use Rattle.pocket_meaning.specs.Members.{Member}
use Rattle.pocket_meaning.specs.Sights.{Sight}

pub same_sight : (s t : Sight) → s.ask ≡ t.ask → ((n : Name) → s.sent n ≡ t.sent n) → ((r : Root) → s.roots r ≡ t.roots r)
    → ((p : Step) (m : Member) → s.steps p m ≡ t.steps p m) → ((m : Member) (n : Name) (o : Modifier) → s.values m n o ≡ t.values m n o) → s ≡ t
same_sight s t asked sent roots steps values =
    let with_ask : Ask → Sight = λ a. record { ask = a; sent = s.sent; roots = s.roots; steps = s.steps; values = s.values } in
    let with_sent : (Name → Option (Field × Cell)) → Sight = λ f. record { ask = t.ask; sent = f; roots = s.roots; steps = s.steps; values = s.values } in
    let with_roots : (Root → List Member) → Sight = λ r. record { ask = t.ask; sent = t.sent; roots = r; steps = s.steps; values = s.values } in
    let with_steps : (Step → Member → List Member) → Sight = λ p. record { ask = t.ask; sent = t.sent; roots = t.roots; steps = p; values = s.values } in
    let with_values : (Member → Name → Modifier → Value) → Sight = λ v. record { ask = t.ask; sent = t.sent; roots = t.roots; steps = t.steps; values = v } in
    ap with_ask asked
    ∙ ap with_sent (fun_ext sent)
    ∙ ap with_roots (fun_ext roots)
    ∙ ap with_steps (fun_ext (λ p. fun_ext (steps p)))
    ∙ ap with_values (fun_ext (λ m. fun_ext (λ n. fun_ext (values m n))))
