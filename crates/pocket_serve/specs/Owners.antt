-- Where calls may stand in a history and which replies fit, for a machine with one owner and for one that many share.
use Rattle.std.specs.Prelude.{◌≡◌, ℕ, ◌≤◌, Bool, List}
use Rattle.pocket_api.specs.declared.reply.Reply.{Reply}
use Rattle.pocket_api.specs.declared.work.Work.{Work}

-- nobody else calls: each call stands right behind what was seen
abbrev pub Alone : ℕ → ℕ → Type 0
Alone seen at = at ≡ seen

-- others may call in between
abbrev pub Shared : ℕ → ℕ → Type 0
Shared seen at = seen ≤ at

-- a desk doesn't say whether its machine's count of faults rose: a reply fits with that or without
abbrev pub SharedFits : (List Work → Work → Reply → Bool → Type 0) → List Work → Work → Reply → Type 0
SharedFits fits history work reply = (risen : Bool) × fits history work reply risen
