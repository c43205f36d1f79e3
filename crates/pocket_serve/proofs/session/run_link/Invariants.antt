use Rattle.std.proofs.Common.{◌≡◌, ◌≤◌, ℕ, List, length}
use Rattle.std.specs.Io.KnownBytes.{Appends, Consumes}
use Rattle.pocket_api.specs.declared.reply.Reply.{Reply}
use Rattle.pocket_api.specs.declared.work.Work.{Work}
use Rattle.pocket_desk.specs.History.{BeginsWith}
use Rattle.pocket_desk.specs.declared.view.Call.{Call}
use Rattle.pocket_serve.specs.Drawing.{AreDrawn, draws_of}
use Rattle.pocket_serve.proofs.UnderWay.{IsUnderWay}
use Rattle.pocket_serve.proofs.session.run_link.Given as goal

abbrev pub invariant-requests : goal.invariant-requests
invariant-requests g l = record {
  progress : (calls : List (Call Work Reply)) × (bytes : List ℕ) × (said : List ℕ)
      × Consumes (g.N.Source.left l.fn.link) (g.N.Source.left l.link) bytes
      × g.V.Service.came_by l.fn.service l.fn.lent calls l.service l.lent
      × IsUnderWay (g.V.Service.fits (g.V.Service.opening l.fn.service)) (g.V.Service.enters (g.V.Service.opening l.fn.service)) g.V.Service.follows
      (length (g.V.Service.seen l.fn.service)) (g.V.Service.seen l.service) l.number calls bytes l.inbox.left said
      × Appends (g.N.Sink.taken l.fn.link) (g.N.Sink.taken l.link) said
      × AreDrawn (g.C.Clock.answers l.fn.clock) (g.C.Clock.answers l.clock) (g.D.Dice.answers l.fn.dice) (g.D.Dice.answers l.dice) (draws_of calls);
  ready : g.V.Service.is_ready l.service l.lent;
  opening : g.V.Service.opening l.service ≡ g.V.Service.opening l.fn.service;
  grows : BeginsWith (g.V.Service.seen l.service) (g.V.Service.seen l.fn.service);
  source_count : g.N.Source.faults l.fn.link ≤ g.N.Source.faults l.link;
  sink_count : g.N.Sink.faults l.fn.link ≤ g.N.Sink.faults l.link;
  place : g.N.Link.place l.link ≡ g.N.Link.place l.fn.link;
}
