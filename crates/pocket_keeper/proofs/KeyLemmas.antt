-- A record's key says whose it is in one way.
use Rattle.std.proofs.Common.{◌≡◌, ◌≢◌, ◌&&◌, ℕ, zero, suc, ◌<◌, Bool, true, false, List, [], ◌∷◌, ◌++◌, codes, IsTrue, length, get_or, Option, Some, None, MatchOption, Bor, refl, sym, ap, ◌∙◌, arith}
use Rattle.std.specs.List.{list_all}
use Rattle.std.proofs.lemmas.Bool.{false≢true}
use Rattle.std.proofs.lemmas.Bool.Decides.{nat_tests}
use Rattle.std.proofs.lemmas.List.{append_cancel_left}
use Rattle.pocket_types.specs.Names.{is_id, is_name, is_word}
use Rattle.pocket_keeper.specs.Texts.{HasNoByte, rec_key}

-- ---- a word up to a byte that isn't in it

rest_lacks : (b x : ℕ) (w : List ℕ) → HasNoByte b (x ∷ w) → HasNoByte b w
rest_lacks b x w h = λ i l. h (suc i) (omega arith)

pub word_once : (b : ℕ) (v w s t : List ℕ) → HasNoByte b v → HasNoByte b w → v ++ (b ∷ s) ≡ w ++ (b ∷ t) → (v ≡ w) × (s ≡ t)
word_once b [] [] s t h k e = (refl, cc)
word_once b [] (y ∷ w) s t h k e = absurd (k 0 (omega arith) cc)
word_once b (x ∷ v) [] s t h k e = absurd (h 0 (omega arith) cc)
word_once b (x ∷ v) (y ∷ w) s t h k e =
    let r = word_once b v w s t (rest_lacks b x v h) (rest_lacks b y w k) cc in
    (cc, r.1)

pub word_next : (b : ℕ) (text literal v w s t : List ℕ) → HasNoByte b v → HasNoByte b w → text ≡ literal ++ (v ++ (b ∷ s)) → text ≡ literal ++ (w ++ (b ∷ t)) → (v ≡ w) × (s ≡ t)
word_next b text literal v w s t h k p q = word_once b v w s t h k (append_cancel_left literal _ _ (sym p ∙ q))

holds_end : (b : ℕ) (w rest : List ℕ) → (length w < length (w ++ (b ∷ rest))) × (get_or (w ++ (b ∷ rest)) (length w) 0 ≡ b)
holds_end b [] rest = (omega arith, refl)
holds_end b (x ∷ w) rest = let r = holds_end b w rest in (omega (arith, r.0), r.1)

-- the name and the id of a key, of what is found behind its first two bytes
pub key_split : (key words : List ℕ) (r : Option (Bor (List ℕ) × Bor (List ℕ))) → key ≡ codes "r/" ++ words
    → MatchOption r ((i : ℕ) → i < length words → get_or words i 0 ≢ 47) (λ x. (words ≡ x.0.now ++ (47 ∷ x.1.now)) × ((i : ℕ) → i < length x.0.now → get_or x.0.now i 0 ≢ 47))
    → MatchOption r ((name id : List ℕ) → HasNoByte 47 name → key ≢ rec_key name id) (λ p. HasNoByte 47 p.0.now × (key ≡ rec_key p.0.now p.1.now))
key_split key words None e h = λ name id none q.
    let k : words ≡ name ++ (47 ∷ id) = append_cancel_left (codes "r/") words _ (sym e ∙ q) in
    let at = holds_end 47 name id in
    h (length name) (omega (arith, at.0, ap length k)) (ap (λ x. get_or x (length name) 0) k ∙ at.1)
key_split key words (Some p) e h = (h.1, e ∙ ap (λ x. codes "r/" ++ x) h.0)

-- ---- the id behind the name of its collection

pub id_behind : (key name r0 r1 r2 : List ℕ) (r : Option (List ℕ)) → key ≡ codes "r/" ++ r0 → r0 ≡ name ++ r1 → r1 ≡ codes "/" ++ r2
    → MatchOption r (is_id r2 ≡ false) (λ id. (id ≡ r2) × IsTrue (is_id r2))
    → MatchOption r ((id : List ℕ) → IsTrue (is_id id) → key ≢ rec_key name id) (λ id. IsTrue (is_id id) × (key ≡ rec_key name id))
id_behind key name r0 r1 r2 None e0 e1 e2 h = λ id form q.
    let k0 = append_cancel_left (codes "r/") r0 (name ++ (47 ∷ id)) (sym e0 ∙ q) in
    let k1 = append_cancel_left name r1 (47 ∷ id) (sym e1 ∙ k0) in
    let k2 = append_cancel_left (codes "/") r2 id (sym e2 ∙ k1) in
    false≢true (sym h ∙ ap is_id k2 ∙ form)
id_behind key name r0 r1 r2 (Some id) e0 e1 e2 h =
    (ap is_id h.0 ∙ h.1, e0 ∙ ap (λ x. codes "r/" ++ x) (e1 ∙ ap (λ x. name ++ x) (e2 ∙ ap (λ x. 47 ∷ x) (sym h.0))))

-- ---- no name has a slash

and_left : (a b : Bool) → (a && b) ≡ true → a ≡ true
and_left true b h = refl
and_left false b h = h

and_right : (a b : Bool) → (a && b) ≡ true → b ≡ true
and_right true b h = h
and_right false b h = cc

pub name_words : (bs : List ℕ) → IsTrue (is_name bs) → list_all is_word bs ≡ true
name_words bs h = and_right _ (list_all is_word bs) (and_left _ _ (and_left _ _ h))

head_passes : (b : ℕ) (bs : List ℕ) → list_all is_word (b ∷ bs) ≡ true → is_word b ≡ true
head_passes b bs h = grind (arith, nat_tests)

rest_passes : (b : ℕ) (bs : List ℕ) → list_all is_word (b ∷ bs) ≡ true → list_all is_word bs ≡ true
rest_passes b bs h = grind (arith, nat_tests)

word_lacks : (end b : ℕ) → is_word end ≡ false → is_word b ≡ true → b ≢ end
word_lacks end b f h e = cc

words_lack : (end : ℕ) → is_word end ≡ false → (bs : List ℕ) → list_all is_word bs ≡ true → HasNoByte end bs
words_lack end f [] h i l = absurd (omega arith)
words_lack end f (b ∷ bs) h zero l = word_lacks end b f (head_passes b bs h)
words_lack end f (b ∷ bs) h (suc i) l = words_lack end f bs (rest_passes b bs h) i (omega arith)

pub name_lacks_slash : (bs : List ℕ) → IsTrue (is_name bs) → HasNoByte 47 bs
name_lacks_slash bs h = words_lack 47 refl bs (name_words bs h)
