-- The id that a body gives has an id's form.
use Rattle.std.proofs.Common.{◌≡◌, ℕ, Bool, true, false, List, [], ◌∷◌, codes, Option, Some, None, Ok, Err, IfSome, IsTrue, if◌then◌else◌, refl, subst}
use Rattle.std.specs.Option.{option_map_or}
use Rattle.pocket_types.specs.Names.{is_id}
use Rattle.pocket_types.specs.declared.ids.Id.{Id}
use Rattle.pocket_types.specs.declared.json.Jv.{Jv}
use Rattle.pocket_types.specs.declared.json.Jv.TheViews.{out-Jv}
use Rattle.pocket_rows.specs.Cells.{value_under}
use Rattle.pocket_check.specs.Bodies.{given_id, id_of_text, id_of_tree, members_sent}
use Rattle.pocket_check.specs.Cells.{is_null, text_of}
use Rattle.pocket_check.specs.declared.fault.CheckFault.TheVariants.{BadValue}
use Rattle.pocket_check.proofs.AnswerLemmas.{both_ok, not_ok, same_ok}

abbrev pub HasIdForm : List ℕ → Type 0
HasIdForm id = IsTrue (is_id id)

text_form : (t : List ℕ) (given : Option Id) → id_of_text t ≡ Ok given → IfSome given HasIdForm
text_form [] given e = subst (λ o. IfSome o HasIdForm) (same_ok None given e) tt
text_form (b ∷ bs) given e = by (is_id (b ∷ bs)) refl e
  where
    by : (q : Bool) → is_id (b ∷ bs) ≡ q → (if q then Ok (Some (b ∷ bs)) else Err (BadValue (codes "id"))) ≡ Ok given → IfSome given HasIdForm
    by true is e = subst (λ o. IfSome o HasIdForm) (same_ok (Some (b ∷ bs)) given e) is
    by false is e = absurd (not_ok (BadValue (codes "id")) given e)

tree_form : (tree : Jv) (given : Option Id) → id_of_tree tree ≡ Ok given → IfSome given HasIdForm
tree_form tree given e = by (is_null (out-Jv tree)) (text_of tree) e
  where
    by : (b : Bool) (t : Option (List ℕ)) → (if b then Ok None else option_map_or id_of_text t (Err (BadValue (codes "id")))) ≡ Ok given → IfSome given HasIdForm
    by true t e = subst (λ o. IfSome o HasIdForm) (same_ok None given e) tt
    by false (Some t) e = text_form t given e
    by false None e = absurd (not_ok (BadValue (codes "id")) given e)

pub given_form : (body : Jv) (given : Option Id) → given_id body ≡ Ok given → IfSome given HasIdForm
unfolding given_id
given_form body given e = let x = both_ok (members_sent body) _ _ e in by (value_under (codes "id") x.0) x.2
  where
    by : (o : Option Jv) → option_map_or id_of_tree o (Ok None) ≡ Ok given → IfSome given HasIdForm
    by None e = subst (λ o. IfSome o HasIdForm) (same_ok None given e) tt
    by (Some tree) e = tree_form tree given e
