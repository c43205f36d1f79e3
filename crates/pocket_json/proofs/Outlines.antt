-- What the writer of `json` prints for a value of the grammar.
use Rattle.std.proofs.Common.{◌≡◌, ℕ, List, [], ◌∷◌, ◌++◌, Bool, true, false, if◌then◌else◌, flat_map, refl, sym, ap, ◌∙◌, append_assoc, append-nil, arith}
use Rattle.std.proofs.lemmas.Bool.Decides.{nat_tests}
use Rattle.json.specs.Json.{Json, null, boolean, number, string, array, object, Items, no_items, item, Members, no_members, member}
use Rattle.json.specs.Print as writer
use Rattle.json.specs.Print.{print, print_from, token_text}
use Rattle.json.specs.Token.{Token}
use Rattle.json.specs.Tree.{json_tokens, items_tokens, members_tokens}
use Rattle.pocket_types.specs.Json.{escape_byte, quoted}

-- ---- strings

same_escape : (c : ℕ) → writer.escape_byte c ≡ escape_byte c
unfolding escape_byte writer.escape_byte
same_escape c = grind (arith, nat_tests)

same_escapes : (text : List ℕ) → writer.escape text ≡ flat_map escape_byte text
same_escapes [] = refl
same_escapes (c ∷ cs) = rw (same_escape c, same_escapes cs) refl

pub same_quoted : (text : List ℕ) → writer.quoted text ≡ quoted text
same_quoted text = ap (λ s. 34 ∷ s ++ 34 ∷ []) (same_escapes text)

-- ---- the compact text of a value

abbrev pub comma_if : Bool → List ℕ
comma_if later = if later then 44 ∷ [] else []

abbrev mutual
  pub text_of : Json → List ℕ
  text_of null = token_text Token.null
  text_of (boolean b) = token_text (Token.boolean b)
  text_of (number s) = s
  text_of (string s) = writer.quoted s
  text_of (array js) = 91 ∷ items_text false js
  text_of (object ms) = 123 ∷ members_text false ms

  -- with the closing bracket
  pub items_text : Bool → Items → List ℕ
  items_text later no_items = 93 ∷ []
  items_text later (item j js) = comma_if later ++ (text_of j ++ items_text true js)

  pub members_text : Bool → Members → List ℕ
  members_text later no_members = 125 ∷ []
  members_text later (member k j ms) = comma_if later ++ (writer.quoted k ++ 58 ∷ (text_of j ++ members_text true ms))

-- ---- what is printed for the tokens of a value

regroup : (q a b c : List ℕ) → (q ++ 58 ∷ []) ++ (a ++ (b ++ c)) ≡ (q ++ 58 ∷ (a ++ b)) ++ c
regroup q a b c = append_assoc q _ _ ∙ sym (append_assoc q _ c ∙ ap (λ s. q ++ 58 ∷ s) (append_assoc a b c))

regroup_item : (q a b c : List ℕ) → q ++ (a ++ (b ++ c)) ≡ (q ++ (a ++ b)) ++ c
regroup_item q a b c = simp append_assoc

print_member : (k : List ℕ) (j : Json) (ms : Members) (ts : List Token)
    → print_from false (json_tokens j ++ (members_tokens ms ++ ts)) ≡ text_of j ++ print_from true (members_tokens ms ++ ts)
    → print_from true (members_tokens ms ++ ts) ≡ members_text true ms ++ print_from true ts
    → (writer.quoted k ++ 58 ∷ []) ++ print_from false ((json_tokens j ++ members_tokens ms) ++ ts) ≡ (writer.quoted k ++ 58 ∷ (text_of j ++ members_text true ms)) ++ print_from true ts
print_member k j ms ts value rest =
    let whole = ap (print_from false) (append_assoc (json_tokens j) (members_tokens ms) ts) ∙ value in
    ap (λ s. (writer.quoted k ++ 58 ∷ []) ++ s) (whole ∙ ap (λ s. text_of j ++ s) rest) ∙ regroup (writer.quoted k) (text_of j) (members_text true ms) (print_from true ts)

mutual
  unfolding print_from

  print_value : (later : Bool) (j : Json) (ts : List Token) → print_from later (json_tokens j ++ ts) ≡ comma_if later ++ (text_of j ++ print_from true ts)
  print_value true null ts = refl
  print_value false null ts = refl
  print_value true (boolean b) ts = refl
  print_value false (boolean b) ts = refl
  print_value true (number n) ts = refl
  print_value false (number n) ts = refl
  print_value true (string s) ts = refl
  print_value false (string s) ts = refl
  print_value true (array js) ts = ap (λ s. 44 ∷ 91 ∷ s) (print_items false js ts)
  print_value false (array js) ts = ap (λ s. 91 ∷ s) (print_items false js ts)
  print_value true (object ms) ts = ap (λ s. 44 ∷ 123 ∷ s) (print_members false ms ts)
  print_value false (object ms) ts = ap (λ s. 123 ∷ s) (print_members false ms ts)

  print_items : (later : Bool) (js : Items) (ts : List Token) → print_from later (items_tokens js ++ ts) ≡ items_text later js ++ print_from true ts
  print_items true no_items ts = refl
  print_items false no_items ts = refl
  print_items later (item j js) ts =
      let rest = items_tokens js in
      ap (print_from later) (append_assoc (json_tokens j) rest ts) ∙ print_value later j (rest ++ ts) ∙ ap (λ s. comma_if later ++ (text_of j ++ s)) (print_items true js ts)
      ∙ regroup_item (comma_if later) (text_of j) (items_text true js) (print_from true ts)

  print_members : (later : Bool) (ms : Members) (ts : List Token) → print_from later (members_tokens ms ++ ts) ≡ members_text later ms ++ print_from true ts
  print_members true no_members ts = refl
  print_members false no_members ts = refl
  print_members true (member k j ms) ts = ap (λ s. 44 ∷ s) (print_member k j ms ts (print_value false j (members_tokens ms ++ ts)) (print_members true ms ts))
  print_members false (member k j ms) ts = print_member k j ms ts (print_value false j (members_tokens ms ++ ts)) (print_members true ms ts)

pub print_is : (j : Json) → print (json_tokens j) ≡ text_of j
unfolding print_from
print_is j = ap print (sym (append-nil (json_tokens j))) ∙ print_value false j [] ∙ append-nil (text_of j)
