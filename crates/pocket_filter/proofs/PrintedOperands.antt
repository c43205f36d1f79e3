-- A token that is an operand is printed as one that is the same operand.
use Rattle.std.proofs.Common.{◌≡◌, ◌+◌, ◌==◌, ℕ, suc, List, [], ◌∷◌, ◌++◌, Bool, true, false, cond, Option, Some, None, take, drop, map, codes, flat_map, slice_index, refl, sym, ap, ◌∙◌, subst, arith, append-nil}
use Rattle.std.specs.List.{slice_split, before_first, after_first, list_any, position_or_len, join_with_byte}
use Rattle.std.specs.Str.{bytes_eq}
use Rattle.std.proofs.lemmas.Bool.{eqb-true}
use Rattle.std.proofs.lemmas.Grind.{common_steps}
use Rattle.std.proofs.lemmas.List.Splits.{join_with_byte-slice_split}
use Rattle.std.proofs.lemmas.Slice.Eq.{bytes_eq-Decides}
use Rattle.pocket_types.specs.declared.expr.Operand.{Operand}
use Rattle.pocket_types.specs.declared.expr.Operand.TheVariants as operands
use Rattle.pocket_filter.specs.Lexing.{suffix_text, part_text, dotted, parts_text, quoted}
use Rattle.pocket_filter.specs.Operands.{unescaped, inner, part_of, parts_of, text_operand, path_operand, ident_operand, operand}
use Rattle.pocket_filter.specs.Printed.{escape_byte, operand_lexeme}
use Rattle.pocket_filter.specs.Tokens.{Lexeme}

-- ---- idents

abbrev is_colon : ℕ → Bool
is_colon b = b == 58

-- what stands after the first `:`, where there is one
abbrev suffix_of : List ℕ → Option (List ℕ)
suffix_of bytes = cond (list_any is_colon bytes) (Some (after_first is_colon bytes)) None

colon_later : (b : ℕ) (bytes : List ℕ) → (b == 58) ≡ false → position_or_len is_colon (b ∷ bytes) ≡ suc (position_or_len is_colon bytes)
colon_later b bytes e =
    let here : position_or_len is_colon (b ∷ bytes) ≡ 1 + position_or_len is_colon bytes = rw e refl in
    omega arith

before_later : (b : ℕ) (bytes : List ℕ) → (b == 58) ≡ false → before_first is_colon (b ∷ bytes) ≡ b ∷ before_first is_colon bytes
before_later b bytes e = ap (λ n. take n (b ∷ bytes)) (colon_later b bytes e)

after_later : (b : ℕ) (bytes : List ℕ) → (b == 58) ≡ false → after_first is_colon (b ∷ bytes) ≡ after_first is_colon bytes
after_later b bytes e =
    let further : position_or_len is_colon (b ∷ bytes) + 1 ≡ suc (position_or_len is_colon bytes + 1) = omega (arith, colon_later b bytes e) in
    ap (λ n. drop n (b ∷ bytes)) further

suffix_later : (b : ℕ) (bytes : List ℕ) → (b == 58) ≡ false → suffix_of (b ∷ bytes) ≡ suffix_of bytes
suffix_later b bytes e =
    let any : list_any is_colon (b ∷ bytes) ≡ list_any is_colon bytes = rw e refl in
    ap (λ t. cond t (Some (after_first is_colon (b ∷ bytes))) None) any
    ∙ ap (λ s. cond (list_any is_colon bytes) (Some s) None) (after_later b bytes e)

part_first_colon : (b : ℕ) (bytes : List ℕ) → (b == 58) ≡ true → part_text (part_of (b ∷ bytes)) ≡ b ∷ bytes
part_first_colon b bytes e = rw e (ap (λ x. x ∷ bytes) (sym (eqb-true b 58 e)))

part_is : (bytes : List ℕ) → part_text (part_of bytes) ≡ bytes
part_is [] = refl
part_is (b ∷ bytes) = go (b == 58) refl (part_is bytes)
  where
    go : (t : Bool) → (b == 58) ≡ t → part_text (part_of bytes) ≡ bytes → part_text (part_of (b ∷ bytes)) ≡ b ∷ bytes
    go true e rest = part_first_colon b bytes e
    go false e rest =
        ap (λ s. s ++ suffix_text (suffix_of (b ∷ bytes))) (before_later b bytes e)
        ∙ ap (λ o. (b ∷ before_first is_colon bytes) ++ suffix_text o) (suffix_later b bytes e)
        ∙ ap (λ s. b ∷ s) rest

joined_parts : (texts : List (List ℕ)) → parts_text (map part_of texts) ≡ join_with_byte 46 texts
joined_parts [] = refl
joined_parts (x ∷ []) = append-nil (part_text (part_of x)) ∙ part_is x
joined_parts (x ∷ y ∷ rest) =
    ap (λ s. s ++ dotted (map part_of (y ∷ rest))) (part_is x) ∙ ap (λ s. x ++ (46 ∷ s)) (joined_parts (y ∷ rest))

-- the parts of an ident are its text
parts_are : (bytes : List ℕ) → parts_text (parts_of bytes) ≡ bytes
parts_are bytes = joined_parts (slice_split (λ b. b == 46) bytes) ∙ join_with_byte-slice_split 46 bytes

signed_front : (bytes : List ℕ) → (slice_index bytes 0 == 64) ≡ true → 64 ∷ drop 1 bytes ≡ bytes
signed_front [] e = cc
signed_front (b ∷ bytes) e = ap (λ x. x ∷ bytes) (sym (eqb-true b 64 e))

path_kept : (bytes : List ℕ) → operand_lexeme (path_operand bytes) ≡ Lexeme.Ident bytes
path_kept bytes = go (slice_index bytes 0 == 64) refl
  where
    go : (t : Bool) → (slice_index bytes 0 == 64) ≡ t → operand_lexeme (path_operand bytes) ≡ Lexeme.Ident bytes
    go true e = rw e (ap Lexeme.Ident (ap (λ s. 64 ∷ s) (parts_are (drop 1 bytes)) ∙ signed_front bytes e))
    go false e = rw e (ap Lexeme.Ident (parts_are bytes))

same_bytes : (xs ys : List ℕ) → bytes_eq xs ys ≡ true → xs ≡ ys
same_bytes xs ys e = (bytes_eq-Decides xs ys).0 e

-- an ident is printed as it is written
pub ident_kept : (bytes : List ℕ) → operand_lexeme (ident_operand bytes) ≡ Lexeme.Ident bytes
ident_kept bytes = is_true (bytes_eq bytes (codes "true")) refl
  where
    is_null : (t : Bool) → bytes_eq bytes (codes "null") ≡ t → operand_lexeme (cond (bytes_eq bytes (codes "null")) operands.Null (path_operand bytes)) ≡ Lexeme.Ident bytes
    is_null true e = rw e (ap Lexeme.Ident (sym (same_bytes bytes (codes "null") e)))
    is_null false e = rw e (path_kept bytes)

    is_false : (t : Bool) → bytes_eq bytes (codes "false") ≡ t
        → operand_lexeme (cond (bytes_eq bytes (codes "false")) (operands.Flag false) (cond (bytes_eq bytes (codes "null")) operands.Null (path_operand bytes))) ≡ Lexeme.Ident bytes
    is_false true e = rw e (ap Lexeme.Ident (sym (same_bytes bytes (codes "false") e)))
    is_false false e = rw e (is_null (bytes_eq bytes (codes "null")) refl)

    is_true : (t : Bool) → bytes_eq bytes (codes "true") ≡ t → operand_lexeme (ident_operand bytes) ≡ Lexeme.Ident bytes
    is_true true e = rw e (ap Lexeme.Ident (sym (same_bytes bytes (codes "true") e)))
    is_true false e = rw e (is_false (bytes_eq bytes (codes "false")) refl)

-- ---- texts

inner_is : (quote : ℕ) (bytes : List ℕ) → inner (quoted quote bytes) ≡ bytes
inner_is quote bytes = grind (arith, common_steps)

unescaped_plain : (b : ℕ) (bytes : List ℕ) → (b == 92) ≡ false → unescaped 34 (b ∷ bytes) ≡ b ∷ unescaped 34 bytes
unescaped_plain b [] e = refl
unescaped_plain b (c ∷ bytes) e = rw e refl

-- what a text gives is escaped and read again
unescaped_is : (text : List ℕ) → unescaped 34 (flat_map escape_byte text) ≡ text
unescaped_is [] = refl
unescaped_is (b ∷ text) = go (b == 34) (b == 92) refl refl (unescaped_is text)
  where
    go : (t u : Bool) → (b == 34) ≡ t → (b == 92) ≡ u → unescaped 34 (flat_map escape_byte text) ≡ text → unescaped 34 (escape_byte b ++ flat_map escape_byte text) ≡ b ∷ text
    go true u e f rest = rw (e, e) (ap (λ s. b ∷ s) rest)
    go false true e f rest = rw (e, f, e, f) (ap (λ s. b ∷ s) rest)
    go false false e f rest = rw (e, f) (unescaped_plain b (flat_map escape_byte text) f ∙ ap (λ s. b ∷ s) rest)

text_kept : (text : List ℕ) → operand (operand_lexeme (operands.Text text)) ≡ Some (operands.Text text)
text_kept text = ap (λ s. Some (operands.Text s)) (ap (unescaped 34) (inner_is 34 (flat_map escape_byte text)) ∙ unescaped_is text)

-- ---- operands

pub operand_kept : (l : Lexeme) (o : Operand) → operand l ≡ Some o → operand (operand_lexeme o) ≡ Some o
operand_kept (Lexeme.Ident bytes) o e =
    let same : o ≡ ident_operand bytes = cc in
    subst (λ x. operand (operand_lexeme x) ≡ Some x) (sym same) (ap operand (ident_kept bytes))
operand_kept (Lexeme.Text written) o e =
    let same : o ≡ text_operand written = cc in
    subst (λ x. operand (operand_lexeme x) ≡ Some x) (sym same) (text_kept (unescaped (slice_index written 0) (inner written)))
operand_kept (Lexeme.Number n) o e =
    let same : o ≡ operands.Num n = cc in
    subst (λ x. operand (operand_lexeme x) ≡ Some x) (sym same) refl
operand_kept _ o e = cc
