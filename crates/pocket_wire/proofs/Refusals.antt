-- The text of a refusal, piece by piece.
use Rattle.std.proofs.Common.{◌≡◌, ℕ, List, ◌++◌, codes, ap, ◌∙◌, append_assoc, decimal}
use Rattle.pocket_wire.specs.Phrases.{phrase, line_end, status_line, refused_bytes}

-- the pieces from the right and from the left
regroup : (a d s p e x y : List ℕ)
    → a ++ (d ++ (s ++ (p ++ (e ++ (x ++ (e ++ (y ++ (e ++ e))))))))
    ≡ a ++ d ++ s ++ p ++ e ++ x ++ e ++ y ++ e ++ e
regroup a d s p e x y = simp append_assoc

-- what is printed is the refusal
pub refusal_is : (status : ℕ) (p reply : List ℕ) → p ≡ phrase status
    → reply ≡ codes "HTTP/1.1 " ++ (decimal status ++ (codes " " ++ (p ++ codes "\r\nContent-Length: 0\r\nConnection: close\r\n\r\n")))
    → reply ≡ refused_bytes status
unfolding refused_bytes status_line
refusal_is status p reply is text =
    text ∙ regroup (codes "HTTP/1.1 ") (decimal status) (codes " ") p line_end (codes "Content-Length: 0") (codes "Connection: close")
    ∙ ap (λ q. codes "HTTP/1.1 " ++ decimal status ++ codes " " ++ q ++ line_end ++ codes "Content-Length: 0" ++ line_end ++ codes "Connection: close" ++ line_end ++ line_end) is
