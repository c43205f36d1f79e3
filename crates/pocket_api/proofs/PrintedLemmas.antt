-- The compact text of maps, texts and numbers.
use Rattle.std.proofs.Common.{◌≡◌, ℕ, List, [], ◌∷◌, ◌++◌, map, pos, refl, ap, ◌∙◌}
use Rattle.std.specs.Fmt.{signed_decimal}
use Rattle.std.specs.List.{join_with_byte}
use Rattle.pocket_types.specs.declared.json.Jv.{Jv}
use Rattle.pocket_types.specs.declared.json.Jv.TheFolds.{fold-roll-Jv, fold-roll-Member}
use Rattle.pocket_types.specs.declared.json.Jv.TheOpen as jv
use Rattle.pocket_types.specs.Json.{member_text, printed, printed_member, quoted, value_text}
use Rattle.pocket_types.specs.Maps.{map_jv, member_of}
use Rattle.pocket_api.specs.Refusals.{number_jv, text_jv}

abbrev pub entry_text : List ℕ × Jv → List ℕ
entry_text e = quoted e.0 ++ 58 ∷ printed e.1

entries_printed : (es : List (List ℕ × Jv)) → map printed_member (map member_of es) ≡ map entry_text es
entries_printed [] = refl
entries_printed (e ∷ es) = rw (fold-roll-Member (List ℕ) (List ℕ) value_text member_text (record { key = e.0; value = e.1 }), entries_printed es) refl

pub printed_map : (es : List (List ℕ × Jv)) → printed (map_jv es) ≡ 123 ∷ join_with_byte 44 (map entry_text es) ++ 125 ∷ []
printed_map es =
    fold-roll-Jv (List ℕ) (List ℕ) value_text member_text (jv.Map (map member_of es))
    ∙ ap (λ texts. 123 ∷ join_with_byte 44 texts ++ 125 ∷ []) (entries_printed es)

pub printed_text : (text : List ℕ) → printed (text_jv text) ≡ quoted text
printed_text text = fold-roll-Jv (List ℕ) (List ℕ) value_text member_text (jv.Text text)

pub printed_number : (n : ℕ) → printed (number_jv n) ≡ signed_decimal (pos n)
printed_number n = fold-roll-Jv (List ℕ) (List ℕ) value_text member_text (jv.Num (pos n))
