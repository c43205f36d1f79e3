use Rattle.std.proofs.Common.{◌≡◌, ◌↔◌, IsTrue, sym, ◌∙◌, subst, rules}
use Rattle.pocket_types.specs.declared.json.Jv.{the_lemmas}
use Rattle.pocket_ops.specs.Trees.{list_jv}
use Rattle.pocket_rows.proofs.CellLemmas.{several-none_differ}
use Rattle.pocket_types.specs.Sound.{Differ}
use Rattle.pocket_rows.proofs.items.several_of.Goals as goal

pub returns-else-branch : goal.returns-else-branch
returns-else-branch c =
    let h = rw c.in-Some.is at c.in_ok-items.ensures in
    let e : c.args.tree.now ≡ list_jv c.in-List.trees = search (rules, the_lemmas) in
    let d : c.as_slice-2.result.now ≡ c.in-Some.items = cc in
    several-none_differ c.args.tree.now c.in-List.trees c.in-Some.items c.in_ok-differ.field-0 e (sym c.as_slice.ensures ∙ h.1) (subst (λ x. IsTrue c.in_ok-differ.field-0 ↔ Differ x) d c.in_ok-differ.ensures) c.if-branch.false
