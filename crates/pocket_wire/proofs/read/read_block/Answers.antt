use Rattle.std.proofs.Common.{◌++◌, [], refl, sym, subst, ◌∙◌, arith}
use Rattle.std.proofs.lemmas.List.{append-nil}
use Rattle.pocket_wire.specs.Blocks.{IsUnfinished}
use Rattle.pocket_wire.specs.Searches.{IsLookedThrough}
use Rattle.pocket_wire.proofs.Blocks.{nothing_looked}
use Rattle.pocket_wire.proofs.Pieces.{reads_none, reads_piece, reads_through}
use Rattle.pocket_wire.proofs.Readings.{added, block_ended, block_failed, consumes_none, err_is, looked_stays, none_there}
use Rattle.pocket_wire.proofs.Told.{consumes_through}
use Rattle.pocket_wire.proofs.read.read_block.Goals as goal

pub fill-init : goal.fill-init
fill-init g c = record {
  got = (
    [],
    consumes_none (g.S.Source.left c.args.source.now),
    sym (append-nil c.args.bytes.now.items),
    reads_none g.S.Source.gives IsUnfinished c.args.bytes.now.items c.args.source.now,
  );
  looked = record { within = omega arith; going = nothing_looked c.args.bytes.now.items; feeds = refl };
  still = λ _. (refl, refl);
  count = omega arith;
  untold = λ n. n;
  apart = refl;
}

pub returns-in_err-read_piece-clause-block : goal.returns-in_err-read_piece-clause-block
returns-in_err-read_piece-clause-block g c =
    let before = c.fill.invariant.got in
    let piece = c.in_err-read_piece.ensures.piece in
    let going = none_there c.find_block-found.result (sym c.is_some.ensures ∙ c.if-is_some.false) c.find_block-found.ensures.going in
    let both = block_failed c.args.bytes.now.items c.fill.bytes.items c.read_piece.new.bytes.items before.0 piece.0
    (g.S.Source.left c.read_piece.new.source) c.in_err-read_piece.field-0.0 c.from_residual.result
    (err_is c.from_residual.result c.in_err-read_piece.field-0.0 c.from_residual.ensures.1) before.2 (subst IsUnfinished c.deref.ensures.value going) piece.2
    in
    let more = reads_through g.S.Source.gives IsUnfinished c.args.bytes.now.items c.fill.bytes.items before.0 piece.0 _ _ _ before.3 before.2
    (reads_piece g.S.Source.gives IsUnfinished c.fill.bytes.items piece.0 c.fill.source c.read_piece.new.source (subst IsUnfinished c.deref.ensures.value going) piece.3) in (
      before.0 ++ piece.0,
      consumes_through _ _ _ before.0 piece.0 before.1 piece.1,
      both.0,
      both.1,
      more,
    )

pub returns-then-branch-eq0-clause-block : goal.returns-then-branch-eq0-clause-block
returns-then-branch-eq0-clause-block g c =
    let before = c.fill.invariant.got in
    let piece = c.in_ok-read_piece.ensures.piece in
    let going = none_there c.find_block-found.result (sym c.is_some.ensures ∙ c.if-is_some.false) c.find_block-found.ensures.going in
    let both = block_ended c.args.bytes.now.items c.fill.bytes.items c.read_piece.new.bytes.items before.0 piece.0 c.in_ok-read_piece.field-0 before.2
    (subst IsUnfinished c.deref.ensures.value going) piece.2.0 piece.2.1 c.if-branch-eq0.true
    in
    let more = reads_through g.S.Source.gives IsUnfinished c.args.bytes.now.items c.fill.bytes.items before.0 piece.0 _ _ _ before.3 before.2
    (reads_piece g.S.Source.gives IsUnfinished c.fill.bytes.items piece.0 c.fill.source c.read_piece.new.source (subst IsUnfinished c.deref.ensures.value going) piece.3) in (
      before.0 ++ piece.0,
      consumes_through _ _ _ before.0 piece.0 before.1 piece.1,
      both.0,
      (both.1, piece.2.2 c.if-branch-eq0.true),
      more,
    )

pub fill-preserved : goal.fill-preserved
fill-preserved g c =
    let before = c.fill.invariant.got in
    let piece = c.in_ok-read_piece.ensures.piece in
    let none = sym c.is_some.ensures ∙ c.if-is_some.false in
    let going = none_there c.find_block-found.result none c.find_block-found.ensures.going in
    let looked = none_there c.find_block-found.result none c.find_block-found.ensures.looked in
    let here = subst (λ s. IsLookedThrough s c.find_block-found.new.search) c.deref.ensures.value looked in
    let more = reads_through g.S.Source.gives IsUnfinished c.args.bytes.now.items c.fill.bytes.items before.0 piece.0 _ _ _ before.3 before.2
    (reads_piece g.S.Source.gives IsUnfinished c.fill.bytes.items piece.0 c.fill.source c.read_piece.new.source (subst IsUnfinished c.deref.ensures.value going) piece.3) in
    record {
      got = (
        before.0 ++ piece.0,
        consumes_through _ _ _ before.0 piece.0 before.1 piece.1,
        added c.args.bytes.now.items c.fill.bytes.items c.read_piece.new.bytes.items before.0 piece.0 before.2 piece.2.0,
        more,
      );
      looked = looked_stays c.fill.bytes.items c.read_piece.new.bytes.items piece.0 c.find_block-found.new.search here piece.2.0;
      still = λ n.
          let same = c.fill.invariant.still n in
          absurd (n (subst IsUnfinished (c.deref.ensures.value ∙ same.1) going));
      count = omega (arith, c.fill.invariant.count, c.read_piece.ensures.count);
      untold = λ n. c.read_piece.ensures.untold (c.fill.invariant.untold n);
      apart = c.read_piece.ensures.apart ∙ c.fill.invariant.apart;
    }
