-- Ids are ASCII.
use Rattle.std.proofs.Common.{◌≡◌, ℕ, zero, suc, ◌<◌, List, [], ◌∷◌, true, IsTrue, arith}
use Rattle.std.proofs.lemmas.Grind.{common_steps}
use Rattle.std.proofs.lemmas.Bool.Decides.{nat_tests}
use Rattle.std.specs.List.{list_all}
use Rattle.std.specs.Str.{IsAscii}
use Rattle.pocket_types.specs.Names.{is_id, is_id_byte}

pub byte_low : (b : ℕ) → is_id_byte b ≡ true → b < 128
byte_low b h = grind (arith, nat_tests)

pub head_passes : (b : ℕ) (bs : List ℕ) → list_all is_id_byte (b ∷ bs) ≡ true → is_id_byte b ≡ true
head_passes b bs h = grind (arith, nat_tests)

pub rest_passes : (b : ℕ) (bs : List ℕ) → list_all is_id_byte (b ∷ bs) ≡ true → list_all is_id_byte bs ≡ true
rest_passes b bs h = grind (arith, nat_tests)

pub all_low : (bs : List ℕ) → list_all is_id_byte bs ≡ true → IsAscii bs
all_low [] h k = grind (arith, common_steps)
all_low (b ∷ bs) h zero = byte_low b (head_passes b bs h)
all_low (b ∷ bs) h (suc k) = all_low bs (rest_passes b bs h) k

pub id_passes : (bs : List ℕ) → IsTrue (is_id bs) → list_all is_id_byte bs ≡ true
id_passes bs h = grind (arith, nat_tests)

pub id_is_ascii : (bs : List ℕ) → IsTrue (is_id bs) → IsAscii bs
id_is_ascii bs h = all_low bs (id_passes bs h)
