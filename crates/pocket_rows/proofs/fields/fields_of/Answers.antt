use Rattle.std.proofs.Common.{◌≡◌, ◌≢◌, ◌∙◌, All, AllPairs, Some, true, false, ap, subst, sym, rules}
use Rattle.pocket_types.specs.declared.json.Jv.{the_lemmas}
use Rattle.pocket_ops.specs.Trees.{list_jv}
use Rattle.pocket_rows.proofs.FieldSoundness.{items_shallow, fields_found, fields_unread, fields_alike}
use Rattle.pocket_rows.specs.FieldReading.{field_read, read_all}
use Rattle.pocket_types.specs.Sound.{IsCellTree}
use Rattle.pocket_rows.proofs.fields.fields_of.Goals as goal

pub listed-requires : goal.listed-requires
listed-requires c =
    let e : c.args.tree.now ≡ list_jv c.in-List.trees = search (rules, the_lemmas) in
    subst (All IsCellTree) (sym c.as_slice.ensures) (items_shallow c.args.tree.now c.in-List.trees e c.requires)

pub returns-in_default-2 : goal.returns-in_default-2
returns-in_default-2 c =
    let e : c.args.tree.now ≡ list_jv c.in-List.trees = search (rules, the_lemmas) in
    fields_unread c.args.tree.now c.in-List.trees e (sym c.in_default-2.is ∙ c.in_ok-fields.ensures ∙ ap (read_all field_read) c.as_slice.ensures)

pub returns-then-branch : goal.returns-then-branch
returns-then-branch c =
    let e : c.args.tree.now ≡ list_jv c.in-List.trees = search (rules, the_lemmas) in
    let is : Some c.in-Some.fields ≡ read_all field_read c.in-List.trees = sym c.in-Some.is ∙ c.in_ok-fields.ensures ∙ ap (read_all field_read) c.as_slice.ensures in
    let d : c.as_slice-2.result.now ≡ c.in-Some.fields = cc in
    fields_found c.args.tree.now c.in-List.trees c.in-Some.fields e c.requires is (subst (AllPairs (λ f g. f.name ≢ g.name)) d (c.in_ok-names_differ.ensures.0 c.if-branch.true))

pub returns-else-branch : goal.returns-else-branch
returns-else-branch c =
    let e : c.args.tree.now ≡ list_jv c.in-List.trees = search (rules, the_lemmas) in
    let is : Some c.in-Some.fields ≡ read_all field_read c.in-List.trees = sym c.in-Some.is ∙ c.in_ok-fields.ensures ∙ ap (read_all field_read) c.as_slice.ensures in
    let d : c.as_slice-2.result.now ≡ c.in-Some.fields = cc in
    fields_alike c.args.tree.now c.in-List.trees c.in-Some.fields e is
    (λ h. let clash : true ≡ false = sym (c.in_ok-names_differ.ensures.1 (subst (AllPairs (λ f g. f.name ≢ g.name)) (sym d) h)) ∙ c.if-branch.false in cc)
