-- The parts of an ident.
use Rattle.std.proofs.Common.{◌≡◌, ◌+◌, ◌<◌, ◌==◌, ℕ, suc, List, [], ◌∷◌, length, take, map, Bool, true, false, cond, Option, Some, None, Bor, refl, sym, ap, ◌∙◌, arith, slice_index}
use Rattle.std.proofs.lemmas.Bool.{cond-false}
use Rattle.std.proofs.lemmas.List.{take_all}
use Rattle.std.specs.List.{before_first, after_first, list_any, position_or_len}
use Rattle.pocket_types.specs.declared.expr.Part.{Part}
use Rattle.pocket_filter.specs.Operands.{part_of}

abbrev is_colon : ℕ → Bool
is_colon b = b == 58

no_colon : (bytes : List ℕ) → position_or_len is_colon bytes ≡ length bytes → list_any is_colon bytes ≡ false
no_colon [] h = refl
no_colon (b ∷ bytes) h = go (b == 58) refl h (no_colon bytes)
  where
    go : (t : Bool) → (b == 58) ≡ t → position_or_len is_colon (b ∷ bytes) ≡ suc (length bytes) → (position_or_len is_colon bytes ≡ length bytes → list_any is_colon bytes ≡ false) → list_any is_colon (b ∷ bytes) ≡ false
    go true e g more = let none : 0 ≡ suc (length bytes) = rw e at g in absurd (omega arith)
    go false e g more = let next : 1 + position_or_len is_colon bytes ≡ suc (length bytes) = rw e at g in rw e (more (omega arith))

pub part_plain : (written name : List ℕ) → name ≡ written → position_or_len is_colon written ≡ length written → ◌≡◌ {A = Part} (record { name = name; suffix = None }) (part_of written)
part_plain written name e h =
    let whole : before_first is_colon written ≡ written = ap (λ n. take n written) h ∙ take_all (length written) written (omega arith) in
    let suffix : cond (list_any is_colon written) (Some (after_first is_colon written)) None ≡ None = cond-false _ _ _ (no_colon written h) in
    ap (λ (n : List ℕ). let p : Part = record { name = n; suffix = None } in p) (e ∙ sym whole) ∙ ap (λ (s : Option (List ℕ)). let p : Part = record { name = before_first is_colon written; suffix = s } in p) (sym suffix)

pub map_now : (pieces : List (Bor (List ℕ))) → map (λ s. part_of s.now) pieces ≡ map part_of (map (λ s. s.now) pieces)
map_now [] = refl
map_now (s ∷ pieces) = ap (λ rest. part_of s.now ∷ rest) (map_now pieces)

-- bytes that begin with `@` aren't empty
pub some_at : (bytes : List ℕ) → slice_index bytes 0 ≡ 64 → 0 < length bytes
some_at [] h = absurd (omega arith)
some_at (b ∷ bytes) h = omega arith
