-- Entries whose keys are known, and what stands under a key of the map that they make.
use Rattle.std.proofs.Common.{◌≡◌, ◌≢◌, ℕ, Bool, true, false, List, [], ◌∷◌, map, Option, Some, None, if◌then◌else◌, refl, sym, ap, ◌∙◌}
use Rattle.std.specs.Str.{bytes_eq}
use Rattle.pocket_types.specs.Maps.{member_of}
use Rattle.pocket_types.specs.declared.json.Jv.{Jv}
use Rattle.pocket_rows.proofs.MemberLemmas.{Entries, value_among, same_text, text_itself, among_found, among_next}
use Rattle.pocket_rows.specs.Cells.{value_under}

-- the value of the first entry with the key
abbrev pub entry_among : List ℕ → Entries → Option Jv
entry_among key [] = None
entry_among key (e ∷ es) = if bytes_eq e.0 key then Some e.1 else entry_among key es

pub among_is : (key : List ℕ) (es : Entries) → value_among key es ≡ entry_among key es
among_is key [] = refl
among_is key (e ∷ es) = by (bytes_eq e.0 key) refl (among_is key es)
  where
    differs : bytes_eq e.0 key ≡ false → e.0 ≢ key
    differs is q = let clash : true ≡ false = sym (text_itself key) ∙ ap (λ x. bytes_eq x key) (sym q) ∙ is in cc

    by : (r : Bool) → bytes_eq e.0 key ≡ r → value_among key es ≡ entry_among key es → value_among key (e ∷ es) ≡ (if r then Some e.1 else entry_among key es)
    by true is more = among_found key e es (same_text e.0 key is)
    by false is more = among_next key e es (differs is) ∙ more

-- maps of the same members have the same entries under each key
pub entries_once : (key : List ℕ) (xs ys : Entries) → map member_of xs ≡ map member_of ys → entry_among key xs ≡ entry_among key ys
entries_once key xs ys e = sym (among_is key xs) ∙ ap (value_under key) e ∙ among_is key ys
