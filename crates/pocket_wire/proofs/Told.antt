-- Told bytes over two steps.
use Rattle.std.proofs.Common.{◌≡◌, ℕ, List, ◌++◌, ◌+◌, take, drop, ap, ◌∙◌, append_assoc, Option, Some, None}
use Rattle.std.proofs.Math.Seq.{take-add}
use Rattle.std.specs.Io.KnownBytes.{Appends, Consumes}

-- what two writes took, one after the other
pub appends_through : (a b c : Option (List ℕ)) (x y : List ℕ) → Appends a b x → Appends b c y → Appends a c (x ++ y)
appends_through None b c x y first second = tt
appends_through (Some a) None c x y first second = absurd first
appends_through (Some a) (Some b) None x y first second = absurd second
appends_through (Some a) (Some b) (Some c) x y first second =
    second ∙ ap (λ s. s ++ y) first ∙ append_assoc a x y

-- a piece that begins where the bytes taken so far end
pub appends_piece : (a b c : Option (List ℕ)) (bytes : List ℕ) (at n : ℕ) → Appends a b (take at bytes)
    → Appends b c (take n (drop at bytes)) → Appends a c (take (at + n) bytes)
appends_piece a b c bytes at n first second =
    rw take-add (appends_through a b c (take at bytes) (take n (drop at bytes)) first second)

-- what two reads gave, one after the other
pub consumes_through : (a b c : Option (List ℕ)) (x y : List ℕ) → Consumes a b x → Consumes b c y → Consumes a c (x ++ y)
consumes_through None b c x y first second = tt
consumes_through (Some a) None c x y first second = absurd first
consumes_through (Some a) (Some b) None x y first second = absurd second
consumes_through (Some a) (Some b) (Some c) x y first second =
    first ∙ ap (λ s. x ++ s) second ∙ append_back x y c
  where
    append_back : (x y c : List ℕ) → x ++ (y ++ c) ≡ x ++ y ++ c
    append_back x y c = simp append_assoc
