use Rattle.std.proofs.Common.{◌≡◌, ◌<◌, ◌++◌, length, ap, ◌∙◌, arith}
use Rattle.pocket_wire.proofs.Pieces.{reads_piece, reads_through}
use Rattle.pocket_wire.proofs.Readings.{added, err_is, fill_ended, fill_failed}
use Rattle.pocket_wire.proofs.Told.{consumes_through}
use Rattle.pocket_wire.proofs.read.read_until.Goals as goal

pub returns-in_err-read_piece-clause-filled : goal.returns-in_err-read_piece-clause-filled
returns-in_err-read_piece-clause-filled g c =
    let before = c.fill.invariant.got in
    let piece = c.in_err-read_piece.ensures.piece in
    let few : length c.fill.bytes.items < c.args.size = omega (arith, c.len.ensures, c.fill-test.true) in
    let both = fill_failed c.args.size c.args.bytes.now.items c.fill.bytes.items c.read_piece.new.bytes.items before.0 piece.0
    (g.S.Source.left c.read_piece.new.source) c.in_err-read_piece.field-0.0 c.from_residual.result
    (err_is c.from_residual.result c.in_err-read_piece.field-0.0 c.from_residual.ensures.1) before.2 few piece.2
    in
    let more = reads_through g.S.Source.gives (λ bytes. length bytes < c.args.size) c.args.bytes.now.items c.fill.bytes.items before.0 piece.0 _ _ _
    before.3 before.2 (reads_piece g.S.Source.gives (λ bytes. length bytes < c.args.size) c.fill.bytes.items piece.0 c.fill.source
    c.read_piece.new.source few piece.3) in
    (before.0 ++ piece.0, consumes_through _ _ _ before.0 piece.0 before.1 piece.1, both.0, both.1, more)

pub returns-then-branch-eq0-clause-filled : goal.returns-then-branch-eq0-clause-filled
returns-then-branch-eq0-clause-filled g c =
    let before = c.fill.invariant.got in
    let piece = c.in_ok-read_piece.ensures.piece in
    let few : length c.fill.bytes.items < c.args.size = omega (arith, c.len.ensures, c.fill-test.true) in
    let both = fill_ended c.args.size c.args.bytes.now.items c.fill.bytes.items c.read_piece.new.bytes.items before.0 piece.0
    c.in_ok-read_piece.field-0 before.2 few piece.2.0 piece.2.1 c.if-branch-eq0.true
    in
    let more = reads_through g.S.Source.gives (λ bytes. length bytes < c.args.size) c.args.bytes.now.items c.fill.bytes.items before.0 piece.0 _ _ _
    before.3 before.2 (reads_piece g.S.Source.gives (λ bytes. length bytes < c.args.size) c.fill.bytes.items piece.0 c.fill.source
    c.read_piece.new.source few piece.3) in (
      before.0 ++ piece.0,
      consumes_through _ _ _ before.0 piece.0 before.1 piece.1,
      both.0,
      (both.1, piece.2.2 c.if-branch-eq0.true),
      more,
    )

pub fill-preserved : goal.fill-preserved
fill-preserved g c =
    let before = c.fill.invariant.got in
    let piece = c.in_ok-read_piece.ensures.piece in
    let few : length c.fill.bytes.items < c.args.size = omega (arith, c.len.ensures, c.fill-test.true) in
    let more = reads_through g.S.Source.gives (λ bytes. length bytes < c.args.size) c.args.bytes.now.items c.fill.bytes.items before.0 piece.0 _ _ _
    before.3 before.2 (reads_piece g.S.Source.gives (λ bytes. length bytes < c.args.size) c.fill.bytes.items piece.0 c.fill.source
    c.read_piece.new.source few piece.3) in
    record {
      got = (
        before.0 ++ piece.0,
        consumes_through _ _ _ before.0 piece.0 before.1 piece.1,
        added c.args.bytes.now.items c.fill.bytes.items c.read_piece.new.bytes.items before.0 piece.0 before.2 piece.2.0,
        more,
      );
      still = λ n.
          let same : length c.fill.bytes.items ≡ length c.args.bytes.now.items = ap length (c.fill.invariant.still n).1 in
          absurd (omega (arith, n, same, few));
      count = omega (arith, c.fill.invariant.count, c.read_piece.ensures.count);
      untold = λ n. c.read_piece.ensures.untold (c.fill.invariant.untold n);
      apart = c.read_piece.ensures.apart ∙ c.fill.invariant.apart;
    }
