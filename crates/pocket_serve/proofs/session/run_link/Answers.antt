use Rattle.std.proofs.Common.{refl, sym, subst, ◌∙◌, [], ◌++◌, ◌≡◌, ◌≤◌, length, arith}
use Rattle.std.specs.Io.KnownBytes.{Appends, Consumes}
use Rattle.std.proofs.Math.Nat.{le_refl}
use Rattle.pocket_serve.proofs.Endings.{appends_none, appends_nothing_more, begins_same, begins_through, consumes_none, consumes_through, drawn_nothing, drawn_so, ends_over, full, goes_over}
use Rattle.pocket_serve.proofs.UnderWay.{starts}
use Rattle.pocket_serve.proofs.session.run_link.Goals as goal

pub requests-init : goal.requests-init
requests-init g c = record {
  progress = (
    [],
    [],
    [],
    consumes_none (g.N.Source.left c.args.link.now),
    g.V.Service.came_by_none c.args.service c.args.lent.now,
    starts _ _ _ (g.V.Service.seen c.args.service) c.new-inbox.result.left c.new-inbox.ensures,
    appends_none (g.N.Sink.taken c.args.link.now),
    drawn_nothing _ _,
  );
  ready = c.requires.ready;
  opening = refl;
  grows = begins_same (g.V.Service.seen c.args.service);
  source_count = le_refl _;
  sink_count = le_refl _;
  place = refl;
}

pub requests-preserved : goal.requests-preserved
requests-preserved g c =
    let inv = c.requests.invariant in
    let p = inv.progress in
    let read = c.next_of-next.ensures.next in
    let between = c.next_of-next.new.link in
    let after = c.answer_on-after.new.link in
    let taken_is : g.N.Sink.taken between ≡ g.N.Sink.taken c.requests.link = c.next_of-next.ensures.apart.0 in
    let faults_is : g.N.Sink.faults between ≡ g.N.Sink.faults c.requests.link = c.next_of-next.ensures.apart.1 in
    let left_is : g.N.Source.left after ≡ g.N.Source.left between = c.answer_on-after.ensures.apart.0 in
    let reads_is : g.N.Source.faults after ≡ g.N.Source.faults between = c.answer_on-after.ensures.apart.1 in
    let low : g.N.Sink.faults c.args.link.now ≤ g.N.Sink.faults between = omega (arith, inv.sink_count, faults_is) in
    let took = subst (λ t. Appends (g.N.Sink.taken c.args.link.now) t p.2) (sym taken_is) p.6 in
    let gave = subst (λ t. Consumes (g.N.Source.left c.args.link.now) t (p.1 ++ read.0)) (sym left_is) (consumes_through _ _ _ _ _ p.3 read.1) in
    let grew = c.answer_on-after.ensures.grows in
    let same = rw inv.opening at c.answer_on-after.ensures.answered in
    let none = rw c.in_default.is at same in
    let on =
    goes_over (g.V.Service.fits (g.V.Service.opening c.args.service)) (g.V.Service.enters (g.V.Service.opening c.args.service)) g.V.Service.follows
    (length (g.V.Service.seen c.args.service)) (g.V.Service.seen c.requests.service) grew.0 c.requests.number p.0 p.1 c.requests.inbox.left p.2 read.0
    c.next_of-next.new.inbox.left (λ calls. g.V.Service.came_by c.requests.service c.requests.lent calls c.answer_on-after.result.0 c.answer_on-after.new.lent)
    (λ calls. g.V.Service.came_by c.args.service c.args.lent.now calls c.answer_on-after.result.0 c.answer_on-after.new.lent)
    (λ last came. g.V.Service.came_by_more c.args.service c.requests.service c.answer_on-after.result.0 c.args.lent.now c.requests.lent
    c.answer_on-after.new.lent p.0 last p.4 came)
    _ _ _ _ _ _ low _ _ _ _ _ _ p.5 (omega (arith, c.requests-test.true)) took p.7
    (g.V.Service.seen c.answer_on-after.result.0) grew.1 _ c.next_of-next.result read.2 none in
    record {
      progress = (on.0, _, on.1, gave, on.2, on.3, on.4, on.5);
      ready = c.answer_on-after.ensures.ready;
      opening = c.answer_on-after.ensures.opening ∙ inv.opening;
      grows = begins_through _ _ _ inv.grows grew;
      source_count = omega (arith, inv.source_count, c.next_of-next.ensures.count, reads_is);
      sink_count = omega (arith, low, c.answer_on-after.ensures.count);
      place = c.answer_on-after.ensures.apart.2 ∙ c.next_of-next.ensures.apart.2 ∙ inv.place;
    }

pub returns-in-Some-clause-session : goal.returns-in-Some-clause-session
returns-in-Some-clause-session g c =
    let inv = c.requests.invariant in
    let p = inv.progress in
    let read = c.next_of-next.ensures.next in
    let between = c.next_of-next.new.link in
    let after = c.answer_on-after.new.link in
    let taken_is : g.N.Sink.taken between ≡ g.N.Sink.taken c.requests.link = c.next_of-next.ensures.apart.0 in
    let faults_is : g.N.Sink.faults between ≡ g.N.Sink.faults c.requests.link = c.next_of-next.ensures.apart.1 in
    let left_is : g.N.Source.left after ≡ g.N.Source.left between = c.answer_on-after.ensures.apart.0 in
    let low : g.N.Sink.faults c.args.link.now ≤ g.N.Sink.faults between = omega (arith, inv.sink_count, faults_is) in
    let took = subst (λ t. Appends (g.N.Sink.taken c.args.link.now) t p.2) (sym taken_is) p.6 in
    let gave = subst (λ t. Consumes (g.N.Source.left c.args.link.now) t (p.1 ++ read.0)) (sym left_is) (consumes_through _ _ _ _ _ p.3 read.1) in
    let grew = c.answer_on-after.ensures.grows in
    let same = rw inv.opening at c.answer_on-after.ensures.answered in
    let some = rw c.in-Some.is at same in
    let on =
    ends_over (g.V.Service.fits (g.V.Service.opening c.args.service)) (g.V.Service.enters (g.V.Service.opening c.args.service)) g.V.Service.follows
    (length (g.V.Service.seen c.args.service)) (g.V.Service.seen c.requests.service) grew.0 c.requests.number p.0 p.1 c.requests.inbox.left p.2 read.0
    c.next_of-next.new.inbox.left (λ calls. g.V.Service.came_by c.requests.service c.requests.lent calls c.answer_on-after.result.0 c.answer_on-after.new.lent)
    (λ calls. g.V.Service.came_by c.args.service c.args.lent.now calls c.answer_on-after.result.0 c.answer_on-after.new.lent)
    (λ last came. g.V.Service.came_by_more c.args.service c.requests.service c.answer_on-after.result.0 c.args.lent.now c.requests.lent
    c.answer_on-after.new.lent p.0 last p.4 came)
    _ _ _ _ _ _ low _ _ _ _ _ _ p.5 (omega (arith, c.requests-test.true)) took p.7
    (g.V.Service.seen c.answer_on-after.result.0) grew.1 _ c.next_of-next.result c.in-Some.ended read.2 some in
    (on.0, _, on.1, on.2, gave, on.3, on.4, on.5, on.6)

pub returns-clause-session : goal.returns-clause-session
returns-clause-session g c =
    let inv = c.requests.invariant in
    let p = inv.progress in (
      p.0,
      p.1,
      p.2,
      [],
      p.3,
      p.4,
      full _ _ _ _ _ c.requests.number _ _ _ _ p.5 (omega (arith, c.requests-test.false)),
      appends_nothing_more _ _ _ p.6,
      drawn_so _ _ _ _ _ _ p.7,
    )
