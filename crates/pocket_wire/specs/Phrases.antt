-- The statuses of replies, their phrases, and the reply to a request that isn't read (RFC 9112, section 4).
use Rattle.std.specs.Prelude.{ℕ, ◌==◌, List, [], ◌∷◌, ◌++◌, codes, IsTrue, decimal, unwrap_or}
use Rattle.std.specs.List.{list_any}
use Rattle.http.specs.StatusCode.{reason_phrase}

-- the statuses that a reply has
abbrev pub reply_statuses : List ℕ
reply_statuses = 200 ∷ 204 ∷ 400 ∷ 401 ∷ 403 ∷ 404 ∷ 413 ∷ 431 ∷ 500 ∷ 501 ∷ 503 ∷ 507 ∷ []

-- one of these
abbrev pub IsReplyStatus : ℕ → Type 0
IsReplyStatus status = IsTrue (list_any (λ s. s == status) reply_statuses)

-- the phrase of a status, which is the usual one; empty where it has none
unfoldable pub phrase : ℕ → List ℕ
phrase status = unwrap_or (reason_phrase status) []

-- the end of a line
abbrev pub line_end : List ℕ
line_end = 13 ∷ 10 ∷ []

-- the first line of a reply
unfoldable pub status_line : ℕ → List ℕ
status_line status = codes "HTTP/1.1 " ++ decimal status ++ codes " " ++ phrase status ++ line_end

-- the whole reply to a request that is refused before its call: no body, and the connection ends
unfoldable pub refused_bytes : ℕ → List ℕ
refused_bytes status = status_line status ++ codes "Content-Length: 0" ++ line_end ++ codes "Connection: close" ++ line_end ++ line_end
