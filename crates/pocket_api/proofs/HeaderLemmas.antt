-- Lower case, byte by byte and character by character.
use Rattle.std.proofs.Common.{◌≡◌, ℕ, suc, ◌<◌, ◌≤◌, List, [], ◌∷◌, length, get_or, map, refl, arith, encode_utf8}
use Rattle.std.proofs.lemmas.Bool.Decides.{nat_tests}
use Rattle.std.proofs.lemmas.Str.{encode_ascii}
use Rattle.pocket_types.proofs.PrintLemmas.{high_bytes}
use Rattle.pocket_api.specs.Works.{header_byte}

-- a byte past ASCII stays
pub high_stays : (b : ℕ) → 128 ≤ b → header_byte b ≡ b
high_stays b h = grind (arith, nat_tests)

pub low_stays_low : (b : ℕ) → b < 128 → header_byte b < 128
low_stays_low b h = grind (arith, nat_tests)

pub high_all_stay : (bs : List ℕ) → ((k : ℕ) → k < length bs → 128 ≤ get_or bs k 0) → map header_byte bs ≡ bs
high_all_stay [] h = refl
high_all_stay (b ∷ bs) h =
    let low : 128 ≤ b = h 0 (omega arith) in
    let here = high_stays b low in
    let more = high_all_stay bs (λ k l. h (suc k) (omega arith)) in
    rw (here, more) refl

pub encode_high : (c : ℕ) → 128 ≤ c → encode_utf8 (header_byte c) ≡ map header_byte (encode_utf8 c)
encode_high c h =
    let same = high_stays c h in
    let all = high_all_stay (encode_utf8 c) (λ k l. high_bytes c k h l) in
    rw (same, all) refl

pub encode_low : (c : ℕ) → c < 128 → encode_utf8 (header_byte c) ≡ map header_byte (encode_utf8 c)
encode_low c h =
    let low = low_stays_low c h in
    rw (encode_ascii c h, encode_ascii (header_byte c) low) refl

pub encode_header : (c : ℕ) → encode_utf8 (header_byte c) ≡ map header_byte (encode_utf8 c)
encode_header c = grind (arith, encode_low c, encode_high c)
