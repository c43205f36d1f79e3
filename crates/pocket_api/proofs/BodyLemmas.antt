-- The tree of a body, by what reading it says.
use Rattle.std.proofs.Common.{◌≡◌, ℕ, List, Option, Some, None, Bool, true, false, refl}
use Rattle.std.specs.Prelude.{if◌then◌else◌}
use Rattle.std.specs.Str.{is_utf8}
use Rattle.std.proofs.lemmas.Str.{IsUtf8-from_is_utf8, is_utf8-from_IsUtf8}
use Rattle.pocket_types.specs.declared.json.Jv.{Jv}
use Rattle.pocket_json.specs.Reading.{IsJson, read}
use Rattle.pocket_api.specs.Works.{tree_of}

-- JSON has its tree
pub tree_read : (bytes : List ℕ) (tree : Jv) → IsJson bytes tree → tree_of bytes ≡ Some tree
tree_read bytes tree json = rw (is_utf8-from_IsUtf8 bytes json.0) json.1

-- what isn't JSON has none
pub no_tree : (bytes : List ℕ) → ((tree : Jv) → ¬ (IsJson bytes tree)) → tree_of bytes ≡ None
no_tree bytes bad = by (is_utf8 bytes) (read bytes) refl refl
  where
    by : (text : Bool) (found : Option Jv) → is_utf8 bytes ≡ text → read bytes ≡ found → (if text then found else None) ≡ None
    by false found utf8 is = refl
    by true None utf8 is = refl
    by true (Some tree) utf8 is = absurd (bad tree (IsUtf8-from_is_utf8 bytes utf8, is))
