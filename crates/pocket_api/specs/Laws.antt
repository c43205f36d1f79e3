-- What holds of the answers to all requests.
use Rattle.std.specs.Prelude.{◌≡◌, ℕ, Bool}
use Rattle.pocket_types.specs.Json.{printed}
use Rattle.pocket_api.specs.Refusals.{IsRefused, because, refusal_jv, data_of, status_of}
use Rattle.pocket_api.specs.Replies.{no_memory_body, not_kept_body, reply_bytes}
use Rattle.pocket_api.specs.declared.reply.Reply.{Reply}
use Rattle.pocket_api.specs.declared.why.Why.{Why}
use Rattle.pocket_api.specs.declared.why.Why.TheVariants.{KeeperFault, Memory}

-- two causes are told in the same bytes, wherever in the history
abbrev pub AreToldAlike : Why → Why → Type 0
AreToldAlike one other = (place at : ℕ) (reply another : Reply) (close : Bool) → IsRefused (because one) place reply → IsRefused (because other) at another
    → reply_bytes reply close ≡ reply_bytes another close

-- the fixed text for want of memory is that of a refusal for this cause
abbrev pub IsTextOfMemory : Type 0
IsTextOfMemory = printed (refusal_jv (status_of Memory) (data_of Memory)) ≡ no_memory_body

-- the fixed text where the store failed is that of a refusal for this cause
abbrev pub IsTextOfKeeperFault : Type 0
IsTextOfKeeperFault = printed (refusal_jv (status_of KeeperFault) (data_of KeeperFault)) ≡ not_kept_body
