use Rattle.std.proofs.Common.{◌≡◌, ◌∙◌, ◌∷◌, [], ap, subst, reverse}
use Rattle.std.proofs.lemmas.List.{reverse-append}
use Rattle.pocket_tables.specs.Following.{LeadTo, world_after_all}
use Rattle.pocket_tables.proofs.FollowingLemmas.{keeps_ready_twice, lead_less}
use Rattle.pocket_tables.proofs.following.go_back.Goals as goal

pub loop-delta-preserved : goal.loop-delta-preserved
loop-delta-preserved c =
    let l = c.loop-delta in
    let d = c.in-Some.delta in
    let rest = c.pop.new.self.items in
    let end = world_after_all (reverse c.args.deltas.items) c.args.tables.now.world in
    let turned : reverse l.left.items ≡ d ∷ reverse rest = ap reverse c.in-Some.ensures.items ∙ reverse-append rest (d ∷ []) in
    record {
      back = lead_less l.tables c.apply-redone.new.self d (reverse rest) end c.apply-redone.ensures.kept c.apply-redone.ensures.world (subst (λ s. LeadTo l.tables s end) turned l.invariant.back);
      kept = keeps_ready_twice c.args.tables.now l.tables c.apply-redone.new.self l.invariant.kept c.apply-redone.ensures.kept;
    }
