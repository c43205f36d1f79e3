use Rattle.std.proofs.Common.{◌≤◌, [], ◌∷◌, ◌++◌, None, Some, ap, arith, filter, length, map, sym, ◌∙◌}
use Rattle.std.specs.Prelude.{option_map}
use Rattle.std.proofs.lemmas.List.{length-append}
use Rattle.pocket_tables.specs.Reads.{is_above, referrers}
use Rattle.pocket_tables.proofs.NextLemmas.{all_above, read_all, read_next}
use Rattle.pocket_meaning.specs.Members as member
use Rattle.pocket_meaning.specs.Seen.{seen}
use Rattle.pocket_expand.specs.Met.{is_holder}
use Rattle.pocket_expand.proofs.LoopLemmas.{holder_less, holder_more, holders_end, holders_full, referrers_rise}
use Rattle.pocket_expand.proofs.related.holders_seen.Goals as goal
use Rattle.pocket_expand.proofs.related.holders_seen.Goals.{in-Some-2+in_ok-push, in_default-2}

pub loop-holder-init : goal.loop-holder-init
loop-holder-init g c =
    let w = c.args.tables.now.world in
    let p = is_holder w c.args.ask.now c.args.from.now c.args.field.now c.args.name.now c.args.id in
    let refs = referrers w c.args.from.now.name c.args.field.now c.args.id in
    record {
      members = ap (λ l. map seen l ++ map (member.Record c.args.from.now) (filter p (filter (is_above None) refs))) c.new-found.ensures.items
          ∙ ap (λ l. map (member.Record c.args.from.now) (filter p l)) (all_above refs);
      few = omega (arith, ap length c.new-found.ensures.items);
      steps = omega arith;
    }

pub loop-holder-preserved : goal.loop-holder-preserved
loop-holder-preserved g c =
    let l = c.loop-holder in
    let w = c.args.tables.now.world in
    let k = c.args.from.now in
    let p = is_holder w c.args.ask.now k c.args.field.now c.args.name.now c.args.id in
    let refs = referrers w k.name c.args.field.now c.args.id in
    let h = c.in-Some.holder.now in
    let rest = filter (is_above (Some h.id)) refs in
    let left = filter (is_above l.after) refs in
    let next = read_next l.after h refs (referrers_rise w k.name c.args.field.now c.args.id c.requires.tabled) c.in-Some.ensures.rec in
    record {
      members = elim c.match-branch-2.branch [
        | in-Some-2+in_ok-push b ↦ ap (λ v. map seen v.items ++ map (member.Record k) (filter p rest)) b.found-is
            ∙ ap (λ v. map seen v ++ map (member.Record k) (filter p rest)) b.in_ok-push.ensures.items
            ∙ holder_more k p l.found.items h rest left _ b.in-Some-2.member (ap (option_map seen) (sym b.in-Some-2.is) ∙ c.in_ok-member.ensures.member) next l.invariant.members
        | in_default-2 b ↦ ap (λ v. map seen v.items ++ map (member.Record k) (filter p rest)) b.found-is
            ∙ holder_less k p l.found.items h rest left _ (ap (option_map seen) (sym b.in_default-2.is) ∙ c.in_ok-member.ensures.member) next l.invariant.members
      ];
      few = elim c.match-branch-2.branch [
        | in-Some-2+in_ok-push b ↦ let more = ap (λ v. length v.items) b.found-is ∙ ap length b.in_ok-push.ensures.items ∙ length-append l.found.items (b.in-Some-2.member ∷ []) in
            omega (arith, l.invariant.few, c.len.ensures, c.if-len-ge-MOST_HOLDERS.false, more)
        | in_default-2 b ↦ let same = ap (λ v. length v.items) b.found-is in omega (arith, l.invariant.few, same)
      ];
      steps = omega (arith, l.invariant.steps, c.in-Some.ensures.steps, c.holder_seen.ensures.steps);
    }

pub loop-holder-smaller : goal.loop-holder-smaller
loop-holder-smaller g c =
    let w = c.args.tables.now.world in
    let k = c.args.from.now in
    let refs = referrers w k.name c.args.field.now c.args.id in
    let next = read_next c.loop-holder.after c.in-Some.holder.now refs (referrers_rise w k.name c.args.field.now c.args.id c.requires.tabled) c.in-Some.ensures.rec in
    omega (arith, ap length next)

pub returns-then-len-ge-MOST_HOLDERS-clause-members : goal.returns-then-len-ge-MOST_HOLDERS-clause-members
returns-then-len-ge-MOST_HOLDERS-clause-members g c =
    let l = c.loop-holder in
    let enough : 1000 ≤ length l.found.items = omega (arith, c.len.ensures, c.if-len-ge-MOST_HOLDERS.true) in
    holders_full l.found.items _ _ l.invariant.few enough l.invariant.members

pub returns-clause-members : goal.returns-clause-members
returns-clause-members g c =
    let l = c.loop-holder in
    let k = c.args.from.now in
    let p = is_holder c.args.tables.now.world c.args.ask.now k c.args.field.now c.args.name.now c.args.id in
    let refs = referrers c.args.tables.now.world k.name c.args.field.now c.args.id in
    holders_end l.found.items _ _ l.invariant.few (ap (λ rs. map (member.Record k) (filter p rs)) (read_all l.after refs c.in_default.ensures.rec)) l.invariant.members
