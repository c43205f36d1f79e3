-- Refusals: the status, the message and the data of each cause.
use Rattle.std.specs.Prelude.{◌≡◌, ℕ, ◌==◌, pos, List, [], ◌∷◌, ◌++◌, fold, codes, decimal, Option, Some, None, unwrap_or, if◌then◌else◌}
use Rattle.pocket_types.specs.Json.{printed}
use Rattle.pocket_types.specs.Maps.{map_jv, put}
use Rattle.pocket_types.specs.declared.faults.FieldFault.{FieldFault}
use Rattle.pocket_types.specs.declared.faults.ResolveFault.{ResolveFault}
use Rattle.pocket_types.specs.declared.faults.ResolveFault.TheVariants as resolve_fault
use Rattle.pocket_types.specs.declared.faults.RuleFault.{RuleFault}
use Rattle.pocket_types.specs.declared.json.Jv.{Jv}
use Rattle.pocket_types.specs.declared.json.Jv.TheOpen as jv
use Rattle.pocket_types.specs.declared.json.Jv.TheViews.{roll-Jv}
use Rattle.pocket_types.specs.declared.requests.Action.{Action}
use Rattle.pocket_types.specs.declared.requests.Action.TheVariants as action
use Rattle.pocket_types.specs.declared.requests.Caller.{Caller}
use Rattle.pocket_types.specs.declared.requests.Caller.TheVariants as caller
use Rattle.pocket_api.specs.FaultWords.{code_text, filter_text, limit_text, resolve_text, rule_fault_text, rule_key}
use Rattle.pocket_api.specs.declared.reply.Reply.{Reply}
use Rattle.pocket_api.specs.declared.reply.ReplyBody.{ReplyBody}
use Rattle.pocket_api.specs.declared.reply.ReplyBody.TheVariants as reply_body
use Rattle.pocket_api.specs.declared.why.Why.{Why}
use Rattle.pocket_api.specs.declared.why.Why.TheVariants as why

-- ---- data

abbrev pub text_jv : List ℕ → Jv
text_jv text = roll-Jv (jv.Text text)

abbrev pub number_jv : ℕ → Jv
number_jv n = roll-Jv (jv.Num (pos n))

abbrev pub no_data : Jv
no_data = map_jv []

-- one key with a text
abbrev pub says : List ℕ → List ℕ → Jv
says key text = map_jv ((key, text_jv text) ∷ [])

-- the number of the one that is meant
abbrev pub at_number : ℕ → List ℕ
at_number n = codes "at " ++ decimal n

-- two names with a dot between them
abbrev pub dotted : List ℕ → List ℕ → List ℕ
dotted a b = a ++ (codes "." ++ b)

-- a record's collection and id and a field, with slashes between them
abbrev pub slashed : List ℕ → List ℕ → List ℕ → List ℕ
slashed c id field = c ++ (codes "/" ++ (id ++ (codes "/" ++ field)))

-- the members of fields with their codes, one more
abbrev pub put_fault : List (List ℕ × Jv) → FieldFault → List (List ℕ × Jv)
put_fault members f = put f.field (text_jv (code_text f.code)) members

-- each field with its code, keys in byte order
abbrev pub faults_jv : List FieldFault → Jv
faults_jv faults = map_jv (fold put_fault [] faults)

abbrev pub broken_rule_jv : List ℕ → Action → RuleFault → Jv
broken_rule_jv c act f =
    map_jv ((codes "fault", text_jv (rule_fault_text f)) ∷ (codes "rule", text_jv (dotted c (rule_key act))) ∷ [])

-- ---- causes

-- a false rule of a creation is said, and of all else it is as if nothing were there
abbrev pub false_rule : Action → ℕ × Jv
false_rule action.List = (404, no_data)
false_rule action.View = (404, no_data)
false_rule action.Create = (400, says (codes "rule") (codes "create"))
false_rule action.Update = (404, no_data)
false_rule action.Delete = (404, no_data)

-- the status of a fault of names
abbrev pub path_status : ResolveFault → ℕ
path_status (resolve_fault.SuperuserOnly at) = 403
path_status _ = 400

-- the status of each cause, and what is told beside the message: to a member, where only the administrator may call; a batch tells of
-- its item itself
abbrev pub told : Why → ℕ × Jv
told why.Done = (200, no_data)
told why.NoRoute = (404, no_data)
told why.NoCollection = (404, no_data)
told why.NoRecord = (404, no_data)
told why.NoClient = (404, no_data)
told why.NotAdmin = (403, no_data)
told (why.Locked c act) = (403, no_data)
told why.OtherCaller = (403, no_data)
told (why.RuleFalse c act) = false_rule act
told (why.BadFilter f) = (400, says (codes "filter") (filter_text f))
told (why.BadPath f) = (path_status f, says (codes "filter") (resolve_text f))
told (why.BadSort n) = (400, says (codes "sort") (at_number n))
told why.BadBody = (400, says (codes "body") (codes "bad"))
told (why.BadValue name) = (400, says name (codes "kind"))
told (why.Invalid faults) = (400, faults_jv faults)
told why.IdTaken = (400, says (codes "id") (codes "taken"))
told (why.Required c id field) = (400, says (codes "required") (slashed c id field))
told (why.Limit l) = (400, says (codes "limit") (limit_text l))
told (why.Item n) = (400, no_data)
told (why.Shape place) = (400, says (codes "shape") place)
told why.NameTaken = (400, says (codes "name") (codes "taken"))
told (why.BrokenRule c act f) = (400, broken_rule_jv c act f)
told (why.Referenced c field) = (400, says (codes "referenced") (dotted c field))
told why.TooManyTopics = (400, says (codes "subscriptions") (codes "limit"))
told (why.BadTopic n) = (400, says (codes "subscriptions") (at_number n))
told why.KeeperFault = (500, no_data)
told (why.HistoryFull entries bytes) = (503, no_data)
told why.Memory = (507, no_data)

abbrev pub status_of : Why → ℕ
status_of cause = (told cause).0

abbrev pub data_of : Why → Jv
data_of cause = (told cause).1

-- ---- refusals

-- a refusal: its cause, its status, and what its body says beside the message
pub record Refusal : Type 0 where
  pub why : Why
  pub status : ℕ
  pub detail : Jv

-- the refusal for a cause
abbrev pub because : Why → Refusal
because cause = record { why = cause; status = status_of cause; detail = data_of cause }

-- where only the administrator may call, a guest is asked who it is, and a member is told that it may not
abbrev pub not_admin : Caller → Refusal
not_admin caller.Guest = record { why = why.NotAdmin; status = 401; detail = no_data }
not_admin _ = because why.NotAdmin

-- the message of a status; one that is no refusal has none
abbrev pub message_of : ℕ → List ℕ
message_of status =
    if status == 400 then codes "Bad request."
    else if status == 401 then codes "Unauthorized."
    else if status == 403 then codes "Forbidden."
    else if status == 404 then codes "Not found."
    else if status == 500 then codes "Storage failed."
    else if status == 503 then codes "History is full."
    else if status == 507 then codes "Out of memory."
    else []

-- the body of a refusal with this status that tells this
abbrev pub refusal_jv : ℕ → Jv → Jv
refusal_jv status detail =
    map_jv ((codes "data", detail) ∷ (codes "message", text_jv (message_of status)) ∷ (codes "status", number_jv status) ∷ [])

-- a reply inside a list of replies
abbrev pub reply_jv : ℕ → Jv → Jv
reply_jv status body = map_jv ((codes "body", body) ∷ (codes "status", number_jv status) ∷ [])

-- what a batch tells of its item that is refused with this status and tells this
abbrev pub item_jv : ℕ → ℕ → Jv → Jv
item_jv n status detail = map_jv ((codes "index", number_jv n) ∷ (codes "reply", reply_jv status (refusal_jv status detail)) ∷ [])

-- the refusal of a batch for that of its item
abbrev pub item_refused : ℕ → Refusal → Refusal
item_refused n r = record { why = why.Item n; status = 400; detail = item_jv n r.status r.detail }

-- ---- replies

-- the body that a reply with this status carries, where its text is fixed
abbrev pub fixed_body : ℕ → Option ReplyBody
fixed_body status = if status == 500 then Some reply_body.NotKept else if status == 507 then Some reply_body.NoMemory else None

-- what a reply with this status carries of a tree: its text, or the fixed text, which is the same
abbrev pub body_of : ℕ → Jv → ReplyBody
body_of status tree = unwrap_or (fixed_body status) (reply_body.Made (printed tree))

-- what a reply that refuses carries
abbrev pub refusal_body : ℕ → Jv → ReplyBody
refusal_body status detail = body_of status (refusal_jv status detail)

-- the reply refuses, at a place in the history
pub record IsRefused (r : Refusal) (place : ℕ) (reply : Reply) : Type 0 where
  pub status : reply.status ≡ r.status
  pub body : reply.body ≡ refusal_body r.status r.detail
  pub why : reply.why ≡ r.why
  pub at : reply.at ≡ place

-- the reply says that there is no memory
pub record IsNoMemory (place : ℕ) (reply : Reply) : Type 0 where
  pub status : reply.status ≡ 507
  pub body : reply.body ≡ reply_body.NoMemory
  pub why : reply.why ≡ why.Memory
  pub at : reply.at ≡ place

-- the reply shows a text
pub record IsShown (text : List ℕ) (place : ℕ) (reply : Reply) : Type 0 where
  pub status : reply.status ≡ 200
  pub body : reply.body ≡ reply_body.Made text
  pub why : reply.why ≡ why.Done
  pub at : reply.at ≡ place

-- the reply says that it is done, and shows nothing
pub record IsDone (place : ℕ) (reply : Reply) : Type 0 where
  pub status : reply.status ≡ 204
  pub body : reply.body ≡ reply_body.Empty
  pub why : reply.why ≡ why.Done
  pub at : reply.at ≡ place
