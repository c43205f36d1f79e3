use Rattle.std.proofs.Common.{refl, sym, subst, [], ◌∷◌, ◌++◌, length, length-append, arith}
use Rattle.pocket_desk.specs.History.{works}
use Rattle.pocket_serve.specs.Hands.{hand_view}
use Rattle.pocket_serve.specs.Owners.{Shared, SharedFits}
use Rattle.pocket_serve.specs.PassLaws.{called_more, called_none}
use Rattle.pocket_serve.specs.Passes.{HasCalled}
use Rattle.pocket_serve.proofs.Desks.{begins_works}
use Rattle.pocket_serve.proofs.Links.{calls_add, served_more, served_none, served_one, sessions_add}
use Rattle.pocket_serve.proofs.hand.serve_hand.Goals as goal

pub links-init : goal.links-init
links-init g c = record {
  desk = c.requires.desk;
  progress = ([], called_none _ c.args.pass, refl, served_none _, refl);
}

pub links-preserved : goal.links-preserved
links-preserved g c =
    let p = c.links.invariant.progress in
    let s = c.serve_link-pass.ensures.served in
    let enters = g.M.Machine.enters (g.M.Machine.opening c.args.desk.now.opened) in
    let before = c.links.pass in
    let after = c.serve_link-pass.result in
    let given = rw c.in-Ok-Some.field-0-is at c.in-Ok-Some.ensures.accepts in
    let view = hand_view g.A.Acceptor.told g.C.Clock.answers g.D.Dice.answers in
    record {
      desk = c.serve_link-pass.ensures.desk;
      progress = (
        p.0 ++ s.0 ∷ [],
        subst (λ calls. HasCalled enters c.args.pass calls after) (sym (calls_add p.0 s.0)) (called_more enters c.args.pass before after _ s.0.calls p.1 s.2),
        sessions_add (SharedFits (g.M.Machine.fits (g.M.Machine.opening c.args.desk.now.opened))) enters Shared (works before.seen) (works after.seen)
            (length (works c.args.pass.seen)) p.0 (length (works before.seen)) s.0 (length (works after.seen)) (begins_works after.seen before.seen s.2.seen) p.2 s.3,
        served_more (view c.args.hand.now) (view c.links.hand) (view c.serve_link-pass.new.hand) p.0 (s.0 ∷ []) p.3
            (served_one g.A.Link.Source.left g.A.Link.Sink.taken g.A.Link.Source.faults g.A.Link.Sink.faults _ _ _ _ _ _ _ c.in-Ok-Some.link s.0 s.1
            given c.accept.ensures.cause.later s.4 s.5 s.6),
        omega (arith, p.4, length-append p.0 (s.0 ∷ [])),
      );
    }
