-- A session: the requests of a connection, the calls that answered them, what was sent, and how it ended.
--
-- It is stated over a history of accepted works, of which a session needs to know a front alone: what holds over a history holds
-- over every longer one. A machine says which replies fit a work after a history, and which of them enter the work; and who shares
-- a machine says where in the history the next call may stand, after what was seen: right there, or anywhere behind it.
use Rattle.std.specs.Prelude.{◌≡◌, ◌⊎◌, ℕ, ◌+◌, ◌≤◌, List, [], ◌∷◌, ◌++◌, true, take, length, slice_get, Some}
use Rattle.pocket_wire.specs.Requests.{AreFirst, RequestsOf}
use Rattle.pocket_wire.specs.declared.request.Ended.{Ended}
use Rattle.pocket_wire.specs.declared.request.Ended.TheVariants.{Done, Refused, Truncated, SourceFault, SinkFault, Memory}
use Rattle.pocket_wire.specs.declared.request.Request.{Request}
use Rattle.pocket_api.specs.Replies.{no_memory_bytes, reply_bytes}
use Rattle.pocket_api.specs.Works.{work_of}
use Rattle.pocket_api.specs.declared.reply.Reply.{Reply}
use Rattle.pocket_api.specs.declared.work.Work.{Work}
use Rattle.pocket_desk.specs.declared.view.Call.{Call}
use Rattle.pocket_serve.specs.Sending.{end_bytes, is_last}

module _ (fits enters : List Work → Work → Reply → Type 0) (follows : ℕ → ℕ → Type 0) (history : List Work) where
  -- the reply enters the call's work, which stands in the history at the call's position; or it enters nothing. The next call may
  -- come from there on
  abbrev pub LeadsTo : Call Work Reply → ℕ → Type 0
  LeadsTo call next =
      (enters (take call.position history) call.work call.reply × (slice_get history call.position ≡ Some call.work) × (next ≡ call.position + 1))
      ⊎ ((¬ (enters (take call.position history) call.work call.reply)) × (next ≡ call.position))

  -- a call that was made after what was seen, and from where on the next one may be made
  pub record IsCallFrom (seen : ℕ) (call : Call Work Reply) (next : ℕ) : Type 0 where
    pub place : follows seen call.position
    pub within : call.position ≤ length history
    pub reply_fits : fits (take call.position history) call.work call.reply
    pub leads : LeadsTo call next

  -- the call of a request
  pub record IsCallFor (seen : ℕ) (request : Request) (call : Call Work Reply) (next : ℕ) : Type 0 where
    pub work : call.work ≡ work_of request call.work.draw
    pub call_from : IsCallFrom seen call next

  -- a request that so many came before, its call, and the bytes of its reply
  pub record IsExchange (number seen : ℕ) (request : Request) (call : Call Work Reply) (text : List ℕ) (next : ℕ) : Type 0 where
    pub call_for : IsCallFor seen request call next
    pub text_is : text ≡ reply_bytes call.reply (is_last number request)

  -- requests of a connection, the first of which so many came before, with a call and a reply for each, and what was said
  abbrev pub Exchanges : ℕ → ℕ → List Request → List (Call Work Reply) → List ℕ → ℕ → Type 0
  Exchanges number seen [] [] said next = (said ≡ []) × (next ≡ seen)
  Exchanges number seen [] (call ∷ calls) said next = ⊥
  Exchanges number seen (request ∷ requests) [] said next = ⊥
  Exchanges number seen (request ∷ requests) (call ∷ calls) said next =
      (middle : ℕ) × (text : List ℕ) × (rest : List ℕ) × IsExchange number seen request call text middle × (said ≡ text ++ rest)
      × Exchanges (number + 1) middle requests calls rest next

  -- ---- endings

  -- all requests of the bytes are answered, and the bytes end so; what comes last is the refusal, where they end with one
  pub record IsWhole (seen : ℕ) (calls : List (Call Work Reply)) (bytes said last : List ℕ) (ended : Ended) (next : ℕ) : Type 0 where
    pub requests : List Request
    pub stand : RequestsOf 1000 bytes requests ended
    pub exchanges : Exchanges 0 seen requests calls said next
    pub last_is : last ≡ end_bytes ended

  -- the first of the requests are answered; what comes last is the reply to one more
  pub record IsCutOff (seen : ℕ) (calls : List (Call Work Reply)) (bytes said last : List ℕ) (next : ℕ) : Type 0 where
    pub requests : List Request
    pub request : Request
    pub stand : AreFirst 1000 bytes (requests ++ request ∷ [])
    pub answered : List (Call Work Reply)
    pub call : Call Work Reply
    pub calls_are : calls ≡ answered ++ call ∷ []
    pub middle : ℕ
    pub exchanges : Exchanges 0 seen requests answered said middle
    pub exchange : IsExchange (length requests) middle request call last next

  -- no call, or that of the request behind these, whose own reply wasn't sent
  abbrev pub IsLastCall : List ℕ → List Request → ℕ → List (Call Work Reply) → ℕ → Type 0
  IsLastCall bytes requests seen [] next = next ≡ seen
  IsLastCall bytes requests seen (call ∷ []) next =
      (request : Request) × AreFirst 1000 bytes (requests ++ request ∷ []) × IsCallFor seen request call next
  IsLastCall bytes requests seen (call ∷ other ∷ calls) next = ⊥

  -- the first of the requests are answered, and then memory is wanting: what comes last is the reply that says so and closes
  pub record IsCutShort (seen : ℕ) (calls : List (Call Work Reply)) (bytes said last : List ℕ) (next : ℕ) : Type 0 where
    pub requests : List Request
    pub stand : AreFirst 1000 bytes requests
    pub answered : List (Call Work Reply)
    pub behind : List (Call Work Reply)
    pub calls_are : calls ≡ answered ++ behind
    pub middle : ℕ
    pub exchanges : Exchanges 0 seen requests answered said middle
    pub last_call : IsLastCall bytes requests middle behind next
    pub last_is : last ≡ no_memory_bytes true

  -- ---- sessions

  -- a session over the bytes that the source gave, after so much was seen: its calls, what it said and what came last, how it
  -- ended, and from where on the next call may be made. A fault of the source stands in place of an end of the input; one of the
  -- sink comes at a reply or at a refusal
  abbrev pub IsSession : ℕ → List (Call Work Reply) → List ℕ → List ℕ → List ℕ → Ended → ℕ → Type 0
  IsSession seen calls bytes said last SourceFault next =
      IsWhole seen calls bytes said last Done next ⊎ IsWhole seen calls bytes said last Truncated next
  IsSession seen calls bytes said last SinkFault next =
      IsCutOff seen calls bytes said last next ⊎ ((status : ℕ) × IsWhole seen calls bytes said last (Refused status) next)
  IsSession seen calls bytes said last Memory next = IsCutShort seen calls bytes said last next
  IsSession seen calls bytes said last ended next = IsWhole seen calls bytes said last ended next
