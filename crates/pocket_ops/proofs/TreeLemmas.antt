-- How members are put together.
use Rattle.std.proofs.Common.{◌≡◌, ℕ, zero, suc, min, Bool, List, [], ◌∷◌, ◌++◌, length, drop, refl, ap, ◌∙◌, append_assoc, arith}
use Rattle.pocket_types.specs.declared.json.Jv.{Jv}
use Rattle.pocket_types.specs.declared.records.Cell.{Cell}
use Rattle.pocket_types.specs.declared.records.Field.{Field}
use Rattle.pocket_ops.specs.Trees.{put_cells}

-- two more items, one after the other
pub two_more : {T : Type 0} (a b c : List T) (x y : T) → b ≡ a ++ x ∷ [] → c ≡ b ++ y ∷ [] → c ≡ a ++ x ∷ y ∷ []
two_more a b c x y e f = f ∙ ap (λ l. l ++ y ∷ []) e ∙ append_assoc a (x ∷ []) (y ∷ [])

-- three more items, one after the other
pub three_more : {T : Type 0} (a b c d : List T) (x y z : T) → b ≡ a ++ x ∷ [] → c ≡ b ++ y ∷ [] → d ≡ c ++ z ∷ [] → d ≡ a ++ x ∷ y ∷ z ∷ []
three_more a b c d x y z e f g =
    g ∙ ap (λ l. l ++ z ∷ []) (f ∙ ap (λ l. l ++ y ∷ []) e) ∙ append_assoc (a ++ x ∷ []) (y ∷ []) (z ∷ []) ∙ append_assoc a (x ∷ []) (y ∷ z ∷ [])

-- what stands there after three steps from nothing
pub three_parts : {T : Type 0} (l k m n a b c : List T) → l ≡ [] → k ≡ l ++ a → m ≡ k ++ b → n ≡ m ++ c → n ≡ a ++ b ++ c
three_parts l k m n a b c e f g h = h ∙ ap (λ x. x ++ c) (g ∙ ap (λ x. x ++ b) (f ∙ ap (λ x. x ++ a) e))

pub five_parts : {T : Type 0} (l k m n o p a b c d e : List T) → l ≡ [] → k ≡ l ++ a → m ≡ k ++ b → n ≡ m ++ c → o ≡ n ++ d → p ≡ o ++ e → p ≡ a ++ b ++ c ++ d ++ e
five_parts l k m n o p a b c d e f g h i j q = q ∙ ap (λ x. x ++ e) (j ∙ ap (λ x. x ++ d) (three_parts l k m n a b c f g h i))

-- where the shorter of fields and cells ends, nothing more is put
pub put_cells-end : (hidden : Bool) (n : ℕ) (fs : List Field) (cs : List Cell) (ms : List (List ℕ × Jv)) → n ≡ min (length fs) (length cs) → put_cells hidden (drop n fs) (drop n cs) ms ≡ ms
put_cells-end hidden zero [] cs ms e = refl
put_cells-end hidden (suc n) [] cs ms e = absurd (omega arith)
put_cells-end hidden zero (f ∷ fs) [] ms e = refl
put_cells-end hidden (suc n) (f ∷ fs) [] ms e = absurd (omega arith)
put_cells-end hidden zero (f ∷ fs) (c ∷ cs) ms e = absurd (omega arith)
put_cells-end hidden (suc n) (f ∷ fs) (c ∷ cs) ms e = put_cells-end hidden n fs cs ms (omega arith)
