-- What trees of one form have inside.
use Rattle.std.proofs.Common.{◌≡◌, ℕ, ℤ, Bool, List, [], ◌∷◌, map, refl, sym, ap, ◌∙◌}
use Rattle.pocket_types.specs.declared.json.Jv.{Jv}
use Rattle.pocket_types.specs.declared.json.Member.{Member}
use Rattle.pocket_types.specs.declared.json.Jv.TheOpen as jv
use Rattle.pocket_types.specs.declared.json.Jv.TheOpen.{Jv-F}
use Rattle.pocket_types.specs.declared.json.Jv.TheViews.{roll-Jv, out-Jv, out-roll-Jv}
use Rattle.pocket_ops.specs.Trees.{text_jv, num_jv, flag_jv, list_jv}

pub same_layer : (x y : Jv-F Jv Member) → roll-Jv x ≡ roll-Jv y → x ≡ y
same_layer x y e = sym (out-roll-Jv x) ∙ ap out-Jv e ∙ out-roll-Jv y

pub text_once : (a b : List ℕ) → text_jv a ≡ text_jv b → a ≡ b
text_once a b e = let l = same_layer (jv.Text a) (jv.Text b) e in cc

pub num_once : (a b : ℤ) → num_jv a ≡ num_jv b → a ≡ b
num_once a b e = let l = same_layer (jv.Num a) (jv.Num b) e in cc

pub flag_once : (a b : Bool) → flag_jv a ≡ flag_jv b → a ≡ b
flag_once a b e = let l = same_layer (jv.Flag a) (jv.Flag b) e in cc

pub list_once : (a b : List Jv) → list_jv a ≡ list_jv b → a ≡ b
list_once a b e = let l = same_layer (jv.List a) (jv.List b) e in cc

pub map_once : (a b : List Member) → roll-Jv (jv.Map a) ≡ roll-Jv (jv.Map b) → a ≡ b
map_once a b e = let l = same_layer (jv.Map a) (jv.Map b) e in cc

pub texts_once : (xs ys : List (List ℕ)) → map text_jv xs ≡ map text_jv ys → xs ≡ ys
texts_once [] [] e = refl
texts_once [] (y ∷ ys) e = cc
texts_once (x ∷ xs) [] e = cc
texts_once (x ∷ xs) (y ∷ ys) e =
    let first : text_jv x ≡ text_jv y = cc in
    let rest : map text_jv xs ≡ map text_jv ys = cc in
    λ i. text_once x y first i ∷ texts_once xs ys rest i
