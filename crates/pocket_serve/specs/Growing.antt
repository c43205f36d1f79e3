-- Notes of calls that grow one after the other, as a service keeps them.
use Rattle.std.specs.Prelude.{◌≡◌, List, [], ◌∷◌, ◌++◌, map}
use Rattle.std.proofs.Common.{refl, ap, sym, ◌∙◌}

pub adds_none : {A : Type 0} (list : List A) → list ≡ list ++ []
adds_none [] = refl
adds_none (x ∷ list) = ap (λ t. x ∷ t) (adds_none list)

append_back : {A : Type 0} (a b c : List A) → (a ++ b) ++ c ≡ a ++ (b ++ c)
append_back [] b c = refl
append_back (x ∷ a) b c = ap (λ t. x ∷ t) (append_back a b c)

pub adds_more : {A : Type 0} (one two three calls more : List A) → two ≡ one ++ calls → three ≡ two ++ more → three ≡ one ++ (calls ++ more)
adds_more one two three calls more first second = second ∙ ap (λ l. l ++ more) first ∙ append_back one calls more

map_more : {A B : Type 0} (note : A → B) (calls more : List A) → map note (calls ++ more) ≡ map note calls ++ map note more
map_more note [] more = refl
map_more note (call ∷ calls) more = ap (λ t. note call ∷ t) (map_more note calls more)

-- the same of what is noted of each call
pub notes_none : {A B : Type 0} (note : A → B) (list : List B) → list ≡ list ++ map note []
notes_none note list = adds_none list

pub notes_more : {A B : Type 0} (note : A → B) (one two three : List B) (calls more : List A) → two ≡ one ++ map note calls → three ≡ two ++ map note more
    → three ≡ one ++ map note (calls ++ more)
notes_more note one two three calls more first second =
    adds_more one two three (map note calls) (map note more) first second ∙ ap (λ t. one ++ t) (sym (map_more note calls more))

-- what stays, stays
pub same_more : {A : Type 0} (one two three : A) → two ≡ one → three ≡ two → three ≡ one
same_more one two three first second = second ∙ first
