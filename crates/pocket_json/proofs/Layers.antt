-- What the folds over a tree give, a level at a time.
use Rattle.std.proofs.Common.{◌≡◌, ◌&&◌, ℕ, suc, List, [], ◌∷◌, Bool, map, refl, ap, ◌∙◌}
use Rattle.std.specs.List.{list_all}
use Rattle.pocket_types.specs.declared.json.Jv.{Jv}
use Rattle.pocket_types.specs.declared.json.Jv.TheFolds.{fold-roll-Jv, fold-roll-Member}
use Rattle.pocket_types.specs.declared.json.Jv.TheOpen as jv
use Rattle.pocket_types.specs.declared.json.Jv.TheViews.{roll-Jv}
use Rattle.pocket_types.specs.declared.json.Member.{fold-Member}
use Rattle.pocket_types.specs.Profile.{rise, rising_step, rising_member, keys_rise, small_step, small_member, numbers_small, greatest, levels_step, levels_member, levels, utf8_step, utf8_member, texts_utf8, entry_utf8}
use Rattle.pocket_types.specs.Maps.{member_of, map_jv}

abbrev pub Entries : Type 0
Entries = List (List ℕ × Jv)

-- the keys of entries
abbrev pub keys : Entries → List (List ℕ)
keys es = map (λ e. e.0) es

rising_members : (es : Entries) → map (fold-Member Bool (List ℕ × Bool) rising_step rising_member) (map member_of es) ≡ map (λ e. (e.0, keys_rise e.1)) es
rising_members [] = refl
rising_members (e ∷ es) = rw (fold-roll-Member Bool (List ℕ × Bool) rising_step rising_member (record { key = e.0; value = e.1 }), rising_members es) refl

small_members : (es : Entries) → map (fold-Member Bool Bool small_step small_member) (map member_of es) ≡ map (λ e. numbers_small e.1) es
small_members [] = refl
small_members (e ∷ es) = rw (fold-roll-Member Bool Bool small_step small_member (record { key = e.0; value = e.1 }), small_members es) refl

utf8_members : (es : Entries) → map (fold-Member Bool Bool utf8_step utf8_member) (map member_of es) ≡ map entry_utf8 es
utf8_members [] = refl
utf8_members (e ∷ es) = rw (fold-roll-Member Bool Bool utf8_step utf8_member (record { key = e.0; value = e.1 }), utf8_members es) refl

levels_members : (es : Entries) → map (fold-Member ℕ ℕ levels_step levels_member) (map member_of es) ≡ map (λ e. levels e.1) es
levels_members [] = refl
levels_members (e ∷ es) = rw (fold-roll-Member ℕ ℕ levels_step levels_member (record { key = e.0; value = e.1 }), levels_members es) refl

keys_again : (es : Entries) → map (λ (m : List ℕ × Bool). m.0) (map (λ e. (e.0, keys_rise e.1)) es) ≡ keys es
keys_again [] = refl
keys_again (e ∷ es) = ap (λ ks. e.0 ∷ ks) (keys_again es)

values_again : (es : Entries) → list_all (λ (m : List ℕ × Bool). m.1) (map (λ e. (e.0, keys_rise e.1)) es) ≡ list_all (λ e. keys_rise e.1) es
values_again [] = refl
values_again (e ∷ es) = ap (λ b. keys_rise e.1 && b) (values_again es)

all_mapped : {X : Type 0} (f : X → Bool) (xs : List X) → list_all (λ b. b) (map f xs) ≡ list_all f xs
all_mapped f [] = refl
all_mapped f (x ∷ xs) = ap (λ b. f x && b) (all_mapped f xs)

pub rising_list : (vs : List Jv) → keys_rise (roll-Jv (jv.List vs)) ≡ list_all keys_rise vs
rising_list vs = fold-roll-Jv Bool (List ℕ × Bool) rising_step rising_member (jv.List vs) ∙ all_mapped keys_rise vs

pub small_list : (vs : List Jv) → numbers_small (roll-Jv (jv.List vs)) ≡ list_all numbers_small vs
small_list vs = fold-roll-Jv Bool Bool small_step small_member (jv.List vs) ∙ all_mapped numbers_small vs

pub utf8_list : (vs : List Jv) → texts_utf8 (roll-Jv (jv.List vs)) ≡ list_all texts_utf8 vs
utf8_list vs = fold-roll-Jv Bool Bool utf8_step utf8_member (jv.List vs) ∙ all_mapped texts_utf8 vs

pub levels_list : (vs : List Jv) → levels (roll-Jv (jv.List vs)) ≡ suc (greatest (map levels vs))
levels_list vs = fold-roll-Jv ℕ ℕ levels_step levels_member (jv.List vs)

pub rising_map : (es : Entries) → keys_rise (map_jv es) ≡ (rise (keys es) && list_all (λ e. keys_rise e.1) es)
rising_map es =
    fold-roll-Jv Bool (List ℕ × Bool) rising_step rising_member (jv.Map (map member_of es)) ∙ ap (λ ms. rise (map (λ m. m.0) ms) && list_all (λ m. m.1) ms) (rising_members es)
    ∙ rw (keys_again es, values_again es) refl

pub small_map : (es : Entries) → numbers_small (map_jv es) ≡ list_all (λ e. numbers_small e.1) es
small_map es = fold-roll-Jv Bool Bool small_step small_member (jv.Map (map member_of es)) ∙ ap (list_all (λ b. b)) (small_members es) ∙ all_mapped (λ e. numbers_small e.1) es

pub utf8_map : (es : Entries) → texts_utf8 (map_jv es) ≡ list_all entry_utf8 es
utf8_map es = fold-roll-Jv Bool Bool utf8_step utf8_member (jv.Map (map member_of es)) ∙ ap (list_all (λ b. b)) (utf8_members es) ∙ all_mapped entry_utf8 es

pub levels_map : (es : Entries) → levels (map_jv es) ≡ suc (greatest (map (λ e. levels e.1) es))
levels_map es = fold-roll-Jv ℕ ℕ levels_step levels_member (jv.Map (map member_of es)) ∙ ap (λ ns. suc (greatest ns)) (levels_members es)
