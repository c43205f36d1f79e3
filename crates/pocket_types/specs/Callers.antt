-- Who sends a request.
use Rattle.std.specs.Prelude.{Bool, true, false}
use Rattle.pocket_types.specs.declared.requests.Caller.{Caller}
use Rattle.pocket_types.specs.declared.requests.Caller.TheVariants as caller

-- the administrator, to whom rules aren't applied
abbrev pub is_admin : Caller → Bool
is_admin caller.Admin = true
is_admin _ = false
