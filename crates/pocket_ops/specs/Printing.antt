-- The texts of trees, one level at a time.
use Rattle.std.specs.Prelude.{◌≡◌, ℕ, ℤ, List, [], ◌∷◌, ◌++◌, Bool, map, codes, refl}
use Rattle.std.proofs.Common.{ap, ◌∙◌}
use Rattle.std.specs.Fmt.{signed_decimal}
use Rattle.std.specs.List.{join_with_byte}
use Rattle.pocket_types.specs.declared.json.Jv.{Jv}
use Rattle.pocket_types.specs.declared.json.Jv.TheFolds.{fold-roll-Jv, fold-roll-Member}
use Rattle.pocket_types.specs.declared.json.Jv.TheOpen as jv
use Rattle.pocket_types.specs.Json.{printed, printed_member, quoted, value_text, member_text}
use Rattle.pocket_types.specs.Maps.{map_jv, member_of}
use Rattle.pocket_ops.specs.Trees.{text_jv, null_jv, flag_jv, num_jv, list_jv}

-- a key, a colon and a value's text
abbrev pub pair_text : List ℕ × Jv → List ℕ
pair_text m = quoted m.0 ++ 58 ∷ printed m.1

pub printed_text : (t : List ℕ) → printed (text_jv t) ≡ quoted t
printed_text t = fold-roll-Jv (List ℕ) (List ℕ) value_text member_text (jv.Text t)

pub printed_null : printed null_jv ≡ codes "null"
printed_null = fold-roll-Jv (List ℕ) (List ℕ) value_text member_text jv.Null

pub printed_flag : (b : Bool) → printed (flag_jv b) ≡ value_text (jv.Flag b)
printed_flag b = fold-roll-Jv (List ℕ) (List ℕ) value_text member_text (jv.Flag b)

pub printed_num : (n : ℤ) → printed (num_jv n) ≡ signed_decimal n
printed_num n = fold-roll-Jv (List ℕ) (List ℕ) value_text member_text (jv.Num n)

pub printed_list : (vs : List Jv) → printed (list_jv vs) ≡ 91 ∷ join_with_byte 44 (map printed vs) ++ 93 ∷ []
printed_list vs = fold-roll-Jv (List ℕ) (List ℕ) value_text member_text (jv.List vs)

pub printed_pair : (m : List ℕ × Jv) → printed_member (member_of m) ≡ pair_text m
printed_pair m = fold-roll-Member (List ℕ) (List ℕ) value_text member_text (record { key = m.0; value = m.1 })

pub printed_pairs : (ms : List (List ℕ × Jv)) → map printed_member (map member_of ms) ≡ map pair_text ms
printed_pairs [] = refl
printed_pairs (m ∷ ms) = λ i. printed_pair m i ∷ printed_pairs ms i

pub printed_map : (ms : List (List ℕ × Jv)) → printed (map_jv ms) ≡ 123 ∷ join_with_byte 44 (map pair_text ms) ++ 125 ∷ []
printed_map ms =
    fold-roll-Jv (List ℕ) (List ℕ) value_text member_text (jv.Map (map member_of ms)) ∙ ap (λ ts. 123 ∷ join_with_byte 44 ts ++ 125 ∷ []) (printed_pairs ms)
