use Rattle.std.proofs.Common.{◌≡◌, Some, None, ◌+◌, drop, [], ◌∷◌, ◌++◌, option_map, true, refl, sym, ap, ◌∙◌, arith, rules, append-nil}
use Rattle.std.specs.List.{list_all}
use Rattle.std.specs.Str.{is_utf8}
use Rattle.std.proofs.lemmas.Bool.{and_from}
use Rattle.std.proofs.lemmas.List.{drop_more, drop_all}
use Rattle.std.proofs.lemmas.List.Folds.{list_all-append}
use Rattle.json.specs.Value.{value_view, items_view, members_view}
use Rattle.pocket_types.specs.Maps.{map_jv, put}
use Rattle.pocket_types.specs.Profile.{texts_utf8, entry_utf8}
use Rattle.pocket_json.specs.Reading.{tree_of, trees_of, entries_of}
use Rattle.pocket_json.proofs.Layers.{utf8_list, utf8_map}
use Rattle.pocket_json.proofs.Profiles.{put_utf8}
use Rattle.pocket_json.proofs.Steps.{item_read, item_refused, member_read, member_refused}
use Rattle.pocket_json.proofs.convert.+tree.Goals as goal

pub trees-loop-item-preserved : goal.trees-loop-item-preserved
trees-loop-item-preserved t c =
    let l = c.loop-item in
    let xs = c.deref-item-items.result.now in
    let x = c.item-item.result in
    let v = c.in_ok-value.value in
    let rest = drop (l.item-index + 1) xs in
    let here : drop l.item-index xs ≡ x ∷ rest = drop_more xs l.item-index x (omega arith) ∙ ap (λ y. y ∷ rest) (sym c.item-item.is) in
    let good : tree_of (value_view x) ≡ Some v = grind arith in
    let texts : texts_utf8 v ≡ true = grind arith in (
      l.invariant.0 ∙ ap (λ ys. option_map (λ more. l.found.items ++ more) (trees_of (items_view ys))) here
          ∙ item_read l.found.items v (value_view x) (items_view rest) good
          ∙ ap (λ vs. option_map (λ more. vs ++ more) (trees_of (items_view rest))) (sym c.in_ok-push.ensures.items),
      ap (list_all texts_utf8) c.in_ok-push.ensures.items ∙ list_all-append texts_utf8 l.found.items (v ∷ []) ∙ and_from _ _ l.invariant.1 (and_from _ _ texts refl),
    )

pub trees-returns-clause-ok : goal.trees-returns-clause-ok
trees-returns-clause-ok t c =
    let l = c.loop-item in
    let xs = c.deref-item-items.result.now in
    let none : drop l.item-index xs ≡ [] = drop_all l.item-index xs (omega arith) in
    ap (λ ys. trees_of (items_view ys)) (sym c.deref-item-items.ensures.value) ∙ l.invariant.0
    ∙ ap (λ ys. option_map (λ more. l.found.items ++ more) (trees_of (items_view ys))) none ∙ ap Some (append-nil l.found.items)

pub trees-returns-in_err-value-clause-bad : goal.trees-returns-in_err-value-clause-bad
trees-returns-in_err-value-clause-bad t c refused =
    let l = c.loop-item in
    let xs = c.deref-item-items.result.now in
    let x = c.item-item.result in
    let rest = drop (l.item-index + 1) xs in
    let here : drop l.item-index xs ≡ x ∷ rest = drop_more xs l.item-index x (omega arith) ∙ ap (λ y. y ∷ rest) (sym c.item-item.is) in
    let bad : tree_of (value_view x) ≡ None = grind arith in
    ap (λ ys. trees_of (items_view ys)) (sym c.deref-item-items.ensures.value) ∙ l.invariant.0
    ∙ ap (λ ys. option_map (λ more. l.found.items ++ more) (trees_of (items_view ys))) here
    ∙ ap (option_map (λ more. l.found.items ++ more)) (item_refused (value_view x) (items_view rest) bad)

pub entries-loop-member-preserved : goal.entries-loop-member-preserved
entries-loop-member-preserved t c =
    let l = c.loop-member in
    let xs = c.deref-member-items.result.now in
    let x = c.member-item.result in
    let v = c.in_ok-value.value in
    let rest = drop (l.member-index + 1) xs in
    let here : drop l.member-index xs ≡ x ∷ rest = drop_more xs l.member-index x (omega arith) ∙ ap (λ y. y ∷ rest) (sym c.member-item.is) in
    let good : tree_of (value_view x.1) ≡ Some v = grind arith in
    let copied : c.in_ok-key.key ≡ x.0.now = search rules in
    let old = l.found.entries in
    let added : c.put.new.found.entries ≡ put c.in_ok-key.key v old = search rules in
    let inserted : c.put.new.found.entries ≡ put x.0.now v old = added ∙ ap (λ k. put k v old) copied in
    let key : is_utf8 c.in_ok-key.key ≡ true = grind arith in
    let texts : texts_utf8 v ≡ true = grind arith in (
      l.invariant.0 ∙ ap (λ ys. entries_of (members_view ys) old) here
          ∙ member_read x.0.now v (value_view x.1) (members_view rest) old good
          ∙ ap (entries_of (members_view rest)) (sym inserted),
      ap (list_all entry_utf8) added ∙ put_utf8 c.in_ok-key.key v old key texts l.invariant.1,
    )

pub entries-returns-in_err-value-clause-bad : goal.entries-returns-in_err-value-clause-bad
entries-returns-in_err-value-clause-bad t c refused =
    let l = c.loop-member in
    let xs = c.deref-member-items.result.now in
    let x = c.member-item.result in
    let rest = drop (l.member-index + 1) xs in
    let here : drop l.member-index xs ≡ x ∷ rest = drop_more xs l.member-index x (omega arith) ∙ ap (λ y. y ∷ rest) (sym c.member-item.is) in
    let bad : tree_of (value_view x.1) ≡ None = grind arith in
    let old = l.found.entries in
    ap (λ ys. entries_of (members_view ys) []) (sym c.deref-member-items.ensures.value) ∙ l.invariant.0 ∙ ap (λ ys. entries_of (members_view ys) old) here
    ∙ member_refused x.0.now (value_view x.1) (members_view rest) old bad

pub tree-returns-in_ok-trees-in-Array-clause-texts : goal.tree-returns-in_ok-trees-in-Array-clause-texts
tree-returns-in_ok-trees-in-Array-clause-texts t c =
    let vs = c.in_ok-trees-in-Array.field-0.items in
    let all : list_all texts_utf8 vs ≡ true = grind arith in
    rw c.list_jv.ensures (utf8_list vs ∙ all)

pub tree-returns-in_ok-map_jv-in-Object-clause-texts : goal.tree-returns-in_ok-map_jv-in-Object-clause-texts
tree-returns-in_ok-map_jv-in-Object-clause-texts t c =
    let es = c.in_ok-entries-in-Object.field-0.entries in
    let all : list_all entry_utf8 es ≡ true = grind arith in
    let is : c.in_ok-map_jv-in-Object.field-0 ≡ map_jv es = grind arith in
    rw is (utf8_map es ∙ all)
