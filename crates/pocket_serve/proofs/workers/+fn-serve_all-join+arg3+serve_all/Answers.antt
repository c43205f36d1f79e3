use Rattle.std.proofs.Common.{rules, ◌≡◌, ⊎_elim, inl, inr, map, subst, sym}
use Rattle.pocket_desk.specs.History.{Holds, works}
use Rattle.pocket_serve.specs.Hands.{hand_view}
use Rattle.pocket_serve.specs.Owners.{Shared, SharedFits}
use Rattle.pocket_serve.specs.Passes.{StillHolds}
use Rattle.pocket_serve.specs.Workers.{AreWorked, IsWorked}
use Rattle.pocket_serve.proofs.Desks.{begins_works}
use Rattle.pocket_serve.proofs.Worked.{all_worked_over, worked_add, worked_over}
use Rattle.pocket_serve.proofs.workers.+fn-serve_all-join+arg3+serve_all.Goals as goal

pub returns-clause-worked : goal.returns-clause-worked
returns-clause-worked g t c =
    let fits = SharedFits (g.M.Machine.fits (g.M.Machine.opening c.args.desk.now.opened)) in
    let enters = g.M.Machine.enters (g.M.Machine.opening c.args.desk.now.opened) in
    let view = hand_view g.A.Acceptor.told g.C.Clock.answers g.D.Dice.answers in
    let last = c.join-last.result.0 in
    let others = c.join-last.result.1 in
    let now = works c.join.result.seen in
    let first : IsWorked fits enters Shared (works last.0.seen) (view c.in-Some.hand) (view last.1) last.2 last.0.ours = search rules in
    let second : AreWorked fits enters Shared (works others.0.seen) (map view c.pop.new.self.items) (map view others.1.items) others.2.items others.0.ours = search rules in
    worked_add fits enters Shared view now c.pop.new.self.items others.1.items c.args.hands.items c.push_reserved.new.self.items others.2.items
    c.push_reserved-2.new.self.items c.in-Some.hand last.1 last.2 last.0.ours others.0.ours c.join.result.ours c.in-Some.ensures.items c.push_reserved.ensures.items c.push_reserved-2.ensures.items c.join.ensures.join.ours
    (all_worked_over fits enters Shared (works others.0.seen) now _ _ _ _ (begins_works _ _ c.join.ensures.join.begins.1) second)
    (worked_over fits enters Shared (works last.0.seen) now _ _ _ _ (begins_works _ _ c.join.ensures.join.begins.0) first)

pub returns-clause-held : goal.returns-clause-held
returns-clause-held g t c =
    let last = c.join-last.result.0 in
    let others = c.join-last.result.1 in
    let same : last.0.held ≡ c.split-one.result.0.held = search rules in
    let still : StillHolds c.split-one.result.1 others.0 = search rules in
    λ n h. c.join.ensures.join.held n
    (⊎_elim (λ own. inl (subst (λ held. Holds held n) (sym same) own)) (λ other. inr (still n other)) (c.split-one.ensures.split.held n h))
