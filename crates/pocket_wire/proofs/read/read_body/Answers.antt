use Rattle.std.proofs.Common.{arith, rules}
use Rattle.pocket_wire.proofs.Bodies.{size_fits, has_body, body_failed, body_truncated, body_read, reads_undecided}
use Rattle.pocket_wire.proofs.Readings.{err_is}
use Rattle.pocket_wire.proofs.read.read_body.Goals as goal

pub overflow_add-size : goal.overflow_add-size
overflow_add-size g c =
    let few = size_fits c.args.bytes.now.items c.args.start c.args.parts c.requires.found.0 c.requires.found.1 c.requires.asked in
    grind (arith, few)

pub returns-in_err-read_until-clause-next : goal.returns-in_err-read_until-clause-next
returns-in_err-read_until-clause-next g c =
    let fill = c.read_until.ensures.filled in
    let e = c.in_err-read_until.field-0.0 in (
      fill.0,
      fill.1,
      body_failed c.args.bytes.now.items c.args.start c.args.parts c.requires.found.0 c.requires.found.1 c.requires.asked fill.0
          c.read_until.new.bytes.items (g.S.Source.left c.read_until.new.source) e c.from_residual.result c.read_until.result
          (err_is c.from_residual.result e c.from_residual.ensures.1) c.in_err-read_until.was fill.2 fill.3,
      reads_undecided c.args.bytes.now.items c.args.start c.args.parts c.requires.found.0 c.requires.found.1 c.requires.asked g.S.Source.gives fill.0 c.args.source.now
          c.read_until.new.source fill.4,
    )

pub returns-in_err-read_until-clause-still : goal.returns-in_err-read_until-clause-still
returns-in_err-read_until-clause-still g c = λ decided.
    (c.read_until.ensures.still
    (has_body c.args.bytes.now.items c.args.start c.args.parts c.requires.found.0 c.requires.found.1 c.requires.asked decided)).0

pub returns-then-not-branch-clause-next : goal.returns-then-not-branch-clause-next
returns-then-not-branch-clause-next g c =
    let fill = c.in_ok-read_until.ensures.filled in (
      fill.0,
      fill.1,
      body_truncated c.args.bytes.now.items c.args.start c.args.parts c.requires.found.0 c.requires.found.1 c.requires.asked fill.0
          c.read_until.new.bytes.items (g.S.Source.left c.read_until.new.source) c.in_ok-read_until.field-0 c.if-not-branch.true fill.2 fill.3,
      reads_undecided c.args.bytes.now.items c.args.start c.args.parts c.requires.found.0 c.requires.found.1 c.requires.asked g.S.Source.gives fill.0 c.args.source.now
          c.read_until.new.source fill.4,
    )

pub returns-then-not-branch-clause-still : goal.returns-then-not-branch-clause-still
returns-then-not-branch-clause-still g c = λ decided.
    (c.read_until.ensures.still
    (has_body c.args.bytes.now.items c.args.start c.args.parts c.requires.found.0 c.requires.found.1 c.requires.asked decided)).0

pub returns-in_err-body-clause-next : goal.returns-in_err-body-clause-next
returns-in_err-body-clause-next g c =
    let fill = c.in_ok-read_until.ensures.filled in (
      fill.0,
      fill.1,
      search rules,
      reads_undecided c.args.bytes.now.items c.args.start c.args.parts c.requires.found.0 c.requires.found.1 c.requires.asked g.S.Source.gives fill.0 c.args.source.now
          c.read_until.new.source fill.4,
    )

pub returns-in_err-body-clause-still : goal.returns-in_err-body-clause-still
returns-in_err-body-clause-still g c = λ decided.
    (c.read_until.ensures.still
    (has_body c.args.bytes.now.items c.args.start c.args.parts c.requires.found.0 c.requires.found.1 c.requires.asked decided)).0

pub returns-clause-next : goal.returns-clause-next
returns-clause-next g c =
    let fill = c.in_ok-read_until.ensures.filled in (
      fill.0,
      fill.1,
      body_read c.args.bytes.now.items c.args.start c.args.parts c.requires.found.0 c.requires.found.1 c.requires.asked fill.0
          c.read_until.new.bytes.items (g.S.Source.left c.read_until.new.source) c.in_ok-read_until.field-0 _ c.take_body.new.bytes.items
          c.request_of.result c.if-not-branch.false fill.2 fill.3 c.in_ok-body.ensures.body c.in_ok-body.ensures.rest c.request_of.ensures,
      reads_undecided c.args.bytes.now.items c.args.start c.args.parts c.requires.found.0 c.requires.found.1 c.requires.asked g.S.Source.gives fill.0 c.args.source.now
          c.read_until.new.source fill.4,
    )

pub returns-clause-still : goal.returns-clause-still
returns-clause-still g c = λ decided.
    (c.read_until.ensures.still
    (has_body c.args.bytes.now.items c.args.start c.args.parts c.requires.found.0 c.requires.found.1 c.requires.asked decided)).0
