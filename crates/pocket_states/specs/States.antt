-- States, and who sends a request.
use Rattle.std.specs.Prelude.{◌≢◌, ◌≤◌, ℕ, int_lt, List, [], length, All, AllPairs, Option, IsTrue, ⊤, if◌then◌else◌}
use Rattle.std.specs.Option.{option_map_or}
use Rattle.std.specs.Str.{bytes_eq}
use Rattle.pocket_types.specs.Within.{HasRec, IsShelf}
use Rattle.pocket_types.specs.declared.ids.Id.{Id}
use Rattle.pocket_types.specs.declared.moments.Moment.{Moment}
use Rattle.pocket_types.specs.declared.names.Name.{Name}
use Rattle.pocket_types.specs.declared.requests.Caller.{Caller}
use Rattle.pocket_types.specs.declared.requests.Caller.TheVariants as caller
use Rattle.pocket_types.specs.declared.world.Shelf.{Shelf}
use Rattle.pocket_types.specs.declared.world.World.{World}
use Rattle.pocket_keeper.specs.declared.rows.KeptRow.{KeptRow}
use Rattle.pocket_keeper.specs.declared.tokens.Token.{Token}
use Rattle.pocket_tables.specs.Keyed.{find_key}
use Rattle.pocket_store.specs.SoundStates.{IsSoundStored}
use Rattle.pocket_store.specs.Stores.{stored_rows}
use Rattle.pocket_store.specs.declared.stored.Stored.{Stored}
use Rattle.pocket_states.specs.Clients.{Client}
use Rattle.pocket_api.specs.declared.work.Work.{Work}

-- a state: all collections with their records, the administrator's token, the tokens rising by text, and the clients as they were opened
pub record MachineState : Type 0 where
  pub world : World
  pub admin : List ℕ
  pub tokens : List Token
  pub clients : List Client

-- what of a state is kept: all but the administrator's token and the clients
abbrev pub stored_in : MachineState → Stored
stored_in s = record { world = s.world; tokens = s.tokens }

-- the kept rows of a state
abbrev pub rows_of : MachineState → List KeptRow
rows_of s = stored_rows (stored_in s)

-- the state that is opened from what is kept: it has no clients
abbrev pub opened_state : Stored → List ℕ → MachineState
opened_state stored admin = record { world = stored.world; admin = admin; tokens = stored.tokens; clients = [] }

-- ---- callers

abbrev pub text_of : Token → List ℕ
text_of t = t.text

-- the token of a text, where there is one
abbrev pub token_of_text : List Token → List ℕ → Option Token
token_of_text tokens text = find_key text_of text tokens

-- who bears a token: its record as long as it lasts, then a guest
abbrev pub member_at : Moment → Token → Caller
member_at moment t = if int_lt moment t.until then caller.Member t.collection t.id else caller.Guest

-- who bears a text as a token: the administrator, the record of a token that lasts, or a guest
abbrev pub bearer : List ℕ → List Token → Moment → List ℕ → Caller
bearer admin tokens moment text =
    if bytes_eq text admin then caller.Admin else option_map_or (member_at moment) (token_of_text tokens text) caller.Guest

-- who sends a work
abbrev pub sender : MachineState → Work → Caller
sender s work = option_map_or (bearer s.admin s.tokens work.draw.moment) work.token caller.Guest

-- ---- soundness

-- a member's record stands in an auth collection
pub record IsMember (w : World) (name : Name) (id : Id) : Type 0 where
  pub shelf : Shelf
  pub there : IsShelf w name shelf
  pub auth : IsTrue shelf.collection.is_auth
  pub member : HasRec shelf id

-- a member who opened a client is there
abbrev pub IsThere : World → Caller → Type 0
IsThere w (caller.Member name id) = IsMember w name id
IsThere w _ = ⊤

-- what is kept is sound, and there are at most 256 clients, whose ids differ and whose members are there
pub record IsSoundState (s : MachineState) : Type 0 where
  pub kept : IsSoundStored (stored_in s)
  pub few : length s.clients ≤ 256
  pub differ : AllPairs (λ a b. a.id ≢ b.id) s.clients
  pub there : All (λ c. IsThere s.world c.caller) s.clients

-- ---- what contracts see

-- what contracts see of a state: the state that it was opened with, and the commands that it accepted since
pub record StateView : Type 0 where
  pub opening : MachineState
  pub journal : List Work
