use Rattle.std.proofs.Common.{◌≡◌, ◌≢◌, Result, Ok, Err, sym, subst}
use Rattle.std.specs.Prelude.{IfOk, IfErr}
use Rattle.pocket_types.specs.declared.faults.ResolveFault.{ResolveFault}
use Rattle.pocket_types.specs.declared.faults.ResolveFault.TheVariants as fault
use Rattle.pocket_resolve.specs.Answers.{Gives}
use Rattle.pocket_resolve.specs.Filters.{resolution}
use Rattle.pocket_resolve.proofs.Safe.{resolved_is_safe}
use Rattle.pocket_resolve.proofs.Sides.{whole}
use Rattle.pocket_resolve.proofs.Typed.{resolved_is_typed}
use Rattle.pocket_resolve.proofs.resolution.resolve.Goals as goal

if_ok : {A : Type 0} (r answer : Result A ResolveFault) (P : A → Type 0) → Gives r answer → ((x : A) → answer ≡ Ok x → P x) → IfOk r P
if_ok (Ok x) answer P is then = then x is
if_ok (Err e) answer P is then = tt

if_fault : {A : Type 0} (r answer : Result A ResolveFault) → Gives r answer → IfErr r (λ e. e ≢ fault.Memory → answer ≡ Err e)
if_fault (Ok x) answer is = tt
if_fault (Err e) answer is = is

pub returns : goal.returns
returns c =
    let collections = c.args.collections.now in
    let purpose = c.args.purpose.now in
    let expr = c.args.expr.now in
    let is : Gives c.and.result (resolution collections purpose expr) =
    subst (λ r. Gives r (resolution collections purpose expr)) (sym c.and.ensures)
    (whole collections purpose expr c.in_ok-filter.filter c.filter_at.new.number c.few_prefixes.result c.in_ok-filter.ensures c.few_prefixes.ensures) in
    record {
      ok = if_ok c.and.result (resolution collections purpose expr) _ is (λ filter h. h);
      typed = if_ok c.and.result (resolution collections purpose expr) _ is (λ filter h. resolved_is_typed collections purpose expr filter h);
      safe = if_ok c.and.result (resolution collections purpose expr) _ is (λ filter h guarded. resolved_is_safe collections purpose expr filter guarded h);
      fault = if_fault c.and.result (resolution collections purpose expr) is;
    }
