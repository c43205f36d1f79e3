-- The bytes of a reply (RFC 9112, section 4).
use Rattle.std.specs.Prelude.{ℕ, Bool, true, false, ◌==◌, ◌++◌, List, [], length, codes, if◌then◌else◌, decimal}
use Rattle.pocket_wire.specs.Phrases.{line_end, status_line}
use Rattle.pocket_api.specs.declared.reply.Reply.{Reply}
use Rattle.pocket_api.specs.declared.reply.ReplyBody.{ReplyBody}
use Rattle.pocket_api.specs.declared.reply.ReplyBody.TheVariants.{Empty, NoMemory, NotKept, Made}

-- the text for want of memory: that of a refusal for this cause
abbrev pub no_memory_body : List ℕ
no_memory_body = codes "{\"data\":{},\"message\":\"Out of memory.\",\"status\":507}"

-- the text where the store failed: that of a refusal for this cause
abbrev pub not_kept_body : List ℕ
not_kept_body = codes "{\"data\":{},\"message\":\"Storage failed.\",\"status\":500}"

-- the text that a body stands for
abbrev pub body_text : ReplyBody → List ℕ
body_text Empty = []
body_text NoMemory = no_memory_body
body_text NotKept = not_kept_body
body_text (Made text) = text

-- the headers that say what the body is: none for 204
abbrev pub body_headers : ℕ → ℕ → List ℕ
body_headers status size =
    if status == 204 then [] else codes "Content-Type: application/json\r\nContent-Length: " ++ (decimal size ++ line_end)

-- the header of a connection's last reply
abbrev pub close_header : Bool → List ℕ
close_header close = if close then codes "Connection: close\r\n" else []

-- a reply with its status, its text, and whether the connection ends with it
abbrev pub reply_text : ℕ → List ℕ → Bool → List ℕ
reply_text status text close =
    status_line status ++ (body_headers status (length text) ++ (close_header close ++ (line_end ++ text)))

-- the bytes of a reply, and whether the connection ends with it
abbrev pub reply_bytes : Reply → Bool → List ℕ
reply_bytes reply close = reply_text reply.status (body_text reply.body) close

-- the bytes of the fixed reply for want of memory
abbrev pub no_memory_bytes : Bool → List ℕ
no_memory_bytes close = reply_text 507 no_memory_body close

-- the bytes of the fixed reply where the store failed
abbrev pub not_kept_bytes : Bool → List ℕ
not_kept_bytes close = reply_text 500 not_kept_body close

-- whether the text of a body is fixed
abbrev pub is_fixed : ReplyBody → Bool
is_fixed NoMemory = true
is_fixed NotKept = true
is_fixed _ = false
