use Rattle.std.proofs.Common.{ℕ, List, ◌≡◌, ◌++◌, length, ap, sym, subst, ◌∙◌, arith, rules}
use Rattle.pocket_wire.specs.Blocks.{IsUnfinished}
use Rattle.pocket_wire.specs.Requests.{IsDecided}
use Rattle.pocket_wire.proofs.Decisions.{unfinished}
use Rattle.pocket_wire.proofs.Pieces.{reads_hold, reads_through}
use Rattle.pocket_wire.proofs.Readings.{err_is, next_failed, next_truncated, read_on}
use Rattle.pocket_wire.proofs.Told.{consumes_through}
use Rattle.pocket_wire.proofs.read.read_next.Goals as goal

pub returns-in_err-end-clause-next : goal.returns-in_err-end-clause-next
returns-in_err-end-clause-next g c =
    let block = c.read_block.ensures.block in
    let e = c.in_err-end.field-0.0 in (
      block.0,
      block.1,
      next_failed c.args.bytes.now.items block.0 c.read_block.new.bytes.items (g.S.Source.left c.read_block.new.source) e c.from_residual.result
          c.read_block.result (err_is c.from_residual.result e c.from_residual.ensures.1) c.in_err-end.was block.2 block.3,
      reads_hold g.S.Source.gives IsUnfinished (λ bytes. ¬ (IsDecided bytes)) c.args.bytes.now.items block.0 c.args.source.now
          c.read_block.new.source (λ more going. unfinished (c.args.bytes.now.items ++ more) going) block.4,
    )

pub returns-in_err-end-clause-still : goal.returns-in_err-end-clause-still
returns-in_err-end-clause-still g c = λ decided. (c.read_block.ensures.still (λ going. unfinished c.args.bytes.now.items going decided)).0

pub returns-in-Some-Block-clause-next : goal.returns-in-Some-Block-clause-next
returns-in-Some-Block-clause-next g c =
    let block = c.in_ok-end.ensures.block in
    let more = c.read_from_block.ensures.next in (
      block.0 ++ more.0,
      consumes_through _ _ _ block.0 more.0 block.1 more.1,
      read_on c.args.bytes.now.items c.read_block.new.bytes.items c.read_from_block.new.bytes.items block.0 more.0
          (g.S.Source.left c.read_from_block.new.source) c.read_from_block.result block.2 more.2,
      reads_through g.S.Source.gives (λ bytes. ¬ (IsDecided bytes)) c.args.bytes.now.items c.read_block.new.bytes.items block.0 more.0 _ _ _
          (reads_hold g.S.Source.gives IsUnfinished (λ bytes. ¬ (IsDecided bytes)) c.args.bytes.now.items block.0 c.args.source.now
          c.read_block.new.source (λ more going. unfinished (c.args.bytes.now.items ++ more) going) block.4) block.2 more.3,
    )

pub returns-in-Some-Block-clause-still : goal.returns-in-Some-Block-clause-still
returns-in-Some-Block-clause-still g c = λ decided.
    let still = c.read_block.ensures.still (λ going. unfinished c.args.bytes.now.items going decided) in
    c.read_from_block.ensures.still (subst IsDecided (sym {A = List ℕ} still.1) decided) ∙ still.0

pub returns-in-Some-TooLong-clause-next : goal.returns-in-Some-TooLong-clause-next
returns-in-Some-TooLong-clause-next g c =
    let block = c.in_ok-end.ensures.block in (
      block.0,
      block.1,
      search rules,
      reads_hold g.S.Source.gives IsUnfinished (λ bytes. ¬ (IsDecided bytes)) c.args.bytes.now.items block.0 c.args.source.now
          c.read_block.new.source (λ more going. unfinished (c.args.bytes.now.items ++ more) going) block.4,
    )

pub returns-in-Some-TooLong-clause-still : goal.returns-in-Some-TooLong-clause-still
returns-in-Some-TooLong-clause-still g c = λ decided. (c.read_block.ensures.still (λ going. unfinished c.args.bytes.now.items going decided)).0

pub returns-in-None-clause-next : goal.returns-in-None-clause-next
returns-in-None-clause-next g c =
    let block = c.in_ok-end.ensures.block in (
      block.0,
      block.1,
      search rules,
      reads_hold g.S.Source.gives IsUnfinished (λ bytes. ¬ (IsDecided bytes)) c.args.bytes.now.items block.0 c.args.source.now
          c.read_block.new.source (λ more going. unfinished (c.args.bytes.now.items ++ more) going) block.4,
    )

pub returns-in-None-2-clause-next : goal.returns-in-None-2-clause-next
returns-in-None-2-clause-next g c =
    let block = c.in_ok-end.ensures.block in (
      block.0,
      block.1,
      next_truncated c.args.bytes.now.items block.0 c.read_block.new.bytes.items (g.S.Source.left c.read_block.new.source) c.in_ok-end.field-0
          c.in-None.is block.2 block.3 (λ none. let size : length c.read_block.new.bytes.items ≡ 0 = ap length none in grind (arith, size, c.is_empty.ensures, c.if-is_empty.false)),
      reads_hold g.S.Source.gives IsUnfinished (λ bytes. ¬ (IsDecided bytes)) c.args.bytes.now.items block.0 c.args.source.now
          c.read_block.new.source (λ more going. unfinished (c.args.bytes.now.items ++ more) going) block.4,
    )

pub returns-in-None-2-clause-still : goal.returns-in-None-2-clause-still
returns-in-None-2-clause-still g c = λ decided. (c.read_block.ensures.still (λ going. unfinished c.args.bytes.now.items going decided)).0
