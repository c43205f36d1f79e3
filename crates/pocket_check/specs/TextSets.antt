-- Sets of the texts of a list.
use Rattle.std.specs.Prelude.{◌≡◌, ℕ, List}
use Rattle.std.specs.Borrow.{Bor}
use Rattle.std.specs.BTreeSet.{BTreeSet, contains}
use Rattle.std.specs.Cmp.Lexicographic.{slice_cmp}
use Rattle.std.specs.List.{list_any}
use Rattle.std.specs.Ordering.{nat_cmp}
use Rattle.std.specs.Str.{bytes_eq}
use Rattle.std.specs.declared.cmp.Ordering.{Ordering}

-- borrowed texts are compared byte by byte
abbrev pub by_text : Bor (List ℕ) → Bor (List ℕ) → Ordering
by_text a b = slice_cmp nat_cmp a.now b.now

-- the set has the texts of the list, and no others
abbrev pub IsSetOf : BTreeSet (Bor (List ℕ)) → List (List ℕ) → Type 0
IsSetOf set texts = (text : Bor (List ℕ)) → contains by_text set text ≡ list_any (bytes_eq text.now) texts
