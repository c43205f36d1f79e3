-- The cells of a record with those that were sent.
use Rattle.std.proofs.Common.{◌≡◌, ◌∙◌, ℕ, zero, suc, List, [], ◌∷◌, ◌++◌, length, drop, min, refl, ap, sym, arith, append-nil}
use Rattle.pocket_types.specs.declared.records.Cell.{Cell}
use Rattle.pocket_types.specs.declared.records.Collection.{Collection}
use Rattle.pocket_types.specs.declared.records.Field.{Field}
use Rattle.pocket_types.specs.declared.requests.Sent.{Sent}
use Rattle.pocket_check.specs.Bodies.{with_sent}

-- none is left behind the shorter of both lists
none_left : (sent : List Sent) (c : Collection) (n : ℕ) (fs : List Field) (cs : List Cell) → n ≡ min (length fs) (length cs)
    → with_sent sent (record c { fields = drop n fs }) (drop n cs) ≡ []
none_left sent c zero [] cs e = refl
none_left sent c (suc n) [] cs e = absurd (omega arith)
none_left sent c zero (f ∷ fs) [] e = refl
none_left sent c (suc n) (f ∷ fs) [] e = absurd (omega arith)
none_left sent c zero (f ∷ fs) (x ∷ cs) e = absurd (omega arith)
none_left sent c (suc n) (f ∷ fs) (x ∷ cs) e = none_left sent c n fs cs (omega arith)

pub all_made : (sent : List Sent) (c : Collection) (n : ℕ) (made old : List Cell) → n ≡ min (length c.fields) (length old)
    → made ++ with_sent sent (record c { fields = drop n c.fields }) (drop n old) ≡ with_sent sent c old → made ≡ with_sent sent c old
all_made sent c n made old e h = sym (append-nil made) ∙ ap (λ xs. made ++ xs) (sym (none_left sent c n c.fields old e)) ∙ h
