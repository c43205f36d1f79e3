-- The text of a reply, piece by piece.
use Rattle.std.proofs.Common.{◌≡◌, ℕ, List, ◌++◌, false, ap, ◌∙◌, arith, refl, append_assoc, codes, decimal}
use Rattle.std.specs.Prelude.{◌==◌}
use Rattle.pocket_wire.specs.Phrases.{phrase, line_end, status_line}
use Rattle.pocket_api.specs.Replies.{body_headers}

-- three pieces at the end of a text
pub three_pieces : (old a b d one two three : List ℕ) → one ≡ old ++ a → two ≡ one ++ b → three ≡ two ++ d → three ≡ old ++ (a ++ (b ++ d))
three_pieces old a b d one two three p q r =
    r ∙ ap (λ t. t ++ d) (q ∙ ap (λ t. t ++ b) p) ∙ regroup
  where
    regroup : old ++ a ++ b ++ d ≡ old ++ (a ++ (b ++ d))
    regroup = simp append_assoc

line_pieces : (a d s p e : List ℕ) → a ++ (d ++ (s ++ (p ++ e))) ≡ a ++ d ++ s ++ p ++ e
line_pieces a d s p e = simp append_assoc

-- the first line, as it is printed
pub status_line_is : (status : ℕ) (p line : List ℕ) → p ≡ phrase status
    → line ≡ codes "HTTP/1.1 " ++ (decimal status ++ (codes " " ++ (p ++ line_end))) → line ≡ status_line status
unfolding status_line
status_line_is status p line is text =
    text ∙ line_pieces (codes "HTTP/1.1 ") (decimal status) (codes " ") p line_end
    ∙ ap (λ q. codes "HTTP/1.1 " ++ decimal status ++ codes " " ++ q ++ line_end) is

-- a status that isn't 204 has both headers
pub body_headers_are : (status size : ℕ) → (status ≡ 204 → ⊥)
    → body_headers status size ≡ codes "Content-Type: application/json\r\nContent-Length: " ++ (decimal size ++ line_end)
body_headers_are status size other = let e : (status == 204) ≡ false = grind arith in rw e refl
