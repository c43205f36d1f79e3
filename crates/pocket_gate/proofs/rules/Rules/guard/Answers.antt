use Rattle.std.proofs.Common.{◌≡◌, false, Some, None, Bool, cond, ap, ◌∙◌, subst}
use Rattle.std.specs.Prelude.{MatchOption}
use Rattle.pocket_types.specs.Callers.{is_admin}
use Rattle.pocket_types.specs.Within.{collections_of}
use Rattle.pocket_plan.specs.Cutting.{guarded_world}
use Rattle.pocket_gate.specs.Built.{guard_of}
use Rattle.pocket_gate.specs.Seen.{seen_world}
use Rattle.pocket_gate.proofs.Sights.{guard_in_rules}
use Rattle.pocket_gate.proofs.rules.Rules.guard.Goals as goal

pub returns-else-whole-clause-guard : goal.returns-else-whole-clause-guard
returns-else-whole-clause-guard c = λ cs e.
    let other : false ≡ is_admin c.args.ask.now.caller = cc in
    ap (λ g. Some g) (guard_in_rules cs c.args.self.now e) ∙ ap (λ b. cond b None (Some (guard_of cs))) other

pub returns-else-whole-clause-seen : goal.returns-else-whole-clause-seen
returns-else-whole-clause-seen c = λ w tabled e.
    let other : is_admin c.args.ask.now.caller ≡ false = cc in
    let ask = c.args.ask.now in
    let P : Bool → Type 0 = λ b. MatchOption (cond b None (Some (guard_of (collections_of w)))) (seen_world w ask ≡ w) (λ g. guarded_world w g ask ≡ seen_world w ask) in
    ap (λ g. guarded_world w g ask) (guard_in_rules (collections_of w) c.args.self.now e)
    ∙ subst P other (c.guards_show_what_is_seen.ensures w ask tabled)
