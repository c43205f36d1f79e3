use Rattle.std.proofs.Common.{ap, sym, append-nil, ◌∙◌, ◌++◌, length, map, arith}
use Rattle.std.specs.Prelude.{filter}
use Rattle.std.specs.Option.{option_copied}
use Rattle.pocket_tables.specs.Reads.{is_above}
use Rattle.pocket_tables.specs.Worlds.{recs_at}
use Rattle.pocket_tables.proofs.NextLemmas.{all_above, found_less, found_more, read_all, read_next}
use Rattle.pocket_tables.proofs.WorldLemmas.{ordered_from}
use Rattle.pocket_read.specs.Pages.{is_wanted}
use Rattle.pocket_read.proofs.listing.recs_matched.Goals as goal
use Rattle.pocket_read.proofs.listing.recs_matched.Goals.{then-branch+in_ok-push, else-branch}

pub loop-rec-init : goal.loop-rec-init
loop-rec-init g c =
    let p = is_wanted c.args.tables.now.world c.args.ask.now c.args.collection.now (option_copied c.args.plan) in
    let all = recs_at c.args.tables.now.world c.args.collection.now.name in
    record {
      recs = ap (λ l. map (λ r. r.now) l ++ filter p (filter (is_above Rattle.std.proofs.Common.None) all)) c.new-recs.ensures.items ∙ ap (filter p) (all_above all);
      steps = omega arith;
    }

pub loop-rec-preserved : goal.loop-rec-preserved
loop-rec-preserved g c =
    let l = c.loop-rec in
    let w = c.args.tables.now.world in
    let p = is_wanted w c.args.ask.now c.args.collection.now (option_copied c.args.plan) in
    let all = recs_at w c.args.collection.now.name in
    let r = c.in-Some.rec in
    let rest = filter (is_above (Rattle.std.proofs.Common.Some r.now.id)) all in
    let next = read_next l.after r.now all ((ordered_from w c.requires.tabled).ids c.args.collection.now.name) c.in-Some.ensures.rec in
    record {
      recs = elim c.if-branch.branch [
        | then-branch+in_ok-push b ↦ ap (λ v. map (λ r. r.now) v.items ++ filter p rest) b.recs-is ∙ ap (λ v. map (λ r. r.now) v ++ filter p rest) b.in_ok-push.ensures.items
            ∙ found_more p l.recs.items r rest (filter (is_above l.after) all) _ (sym b.if-branch.true ∙ c.in_ok-does_match.ensures.matches) next l.invariant.recs
        | else-branch b ↦ ap (λ v. map (λ r. r.now) v.items ++ filter p rest) b.recs-is
            ∙ found_less p l.recs.items r.now rest (filter (is_above l.after) all) _ (sym b.if-branch.false ∙ c.in_ok-does_match.ensures.matches) next l.invariant.recs
      ];
      steps = omega (arith, l.invariant.steps, c.in-Some.ensures.steps, c.does_match.ensures.steps);
    }

pub loop-rec-smaller : goal.loop-rec-smaller
loop-rec-smaller g c =
    let w = c.args.tables.now.world in
    let all = recs_at w c.args.collection.now.name in
    let next = read_next c.loop-rec.after c.in-Some.rec.now all ((ordered_from w c.requires.tabled).ids c.args.collection.now.name) c.in-Some.ensures.rec in
    omega (arith, ap length next)

pub returns-clause-recs : goal.returns-clause-recs
returns-clause-recs g c =
    let found = map (λ r. r.now) c.loop-rec.recs.items in
    let p = is_wanted c.args.tables.now.world c.args.ask.now c.args.collection.now (option_copied c.args.plan) in
    let all = recs_at c.args.tables.now.world c.args.collection.now.name in
    sym (append-nil found) ∙ ap (λ l. found ++ filter p l) (sym (read_all c.loop-rec.after all c.in_default.ensures.rec)) ∙ c.loop-rec.invariant.recs
