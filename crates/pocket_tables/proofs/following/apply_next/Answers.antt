use Rattle.std.proofs.Common.{◌≡◌, ◌∙◌, ◌++◌, ◌∷◌, [], sym, ap, subst, reverse}
use Rattle.std.proofs.lemmas.List.{reverse-append}
use Rattle.pocket_tables.specs.Following.{LeadTo}
use Rattle.pocket_tables.proofs.FollowingLemmas.{lead_kept, lead_more}
use Rattle.pocket_tables.proofs.following.apply_next.Goals as goal

pub returns-in_err-reserve-2-clause-back : goal.returns-in_err-reserve-2-clause-back
returns-in_err-reserve-2-clause-back c =
    let t = c.args.tables.now in
    let r = c.reserve-2 in
    let stack = c.args.inverses.now.items in
    λ w lead. subst (λ items. LeadTo r.new.self (reverse items) w) (sym c.reserve.ensures.items) (lead_kept t r.new.self (reverse stack) w r.ensures.kept r.ensures.world lead)

pub returns-clause-back : goal.returns-clause-back
returns-clause-back c =
    let t = c.args.tables.now in
    let r = c.reserve-2 in
    let a = c.apply.ensures in
    let stack = c.args.inverses.now.items in
    let turned : reverse c.push_reserved.new.self.items ≡ c.apply.result ∷ reverse stack =
    ap reverse (c.push_reserved.ensures.items ∙ ap (λ items. items ++ c.apply.result ∷ []) c.reserve.ensures.items) ∙ reverse-append stack (c.apply.result ∷ []) in
    λ w lead. subst (λ deltas. LeadTo c.apply.new.self deltas w) (sym turned)
    (lead_more r.new.self c.apply.new.self c.apply.result (reverse stack) w a.kept a.fits a.ready a.undone (lead_kept t r.new.self (reverse stack) w r.ensures.kept r.ensures.world lead))
