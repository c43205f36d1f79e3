-- What rows told before and after say of one another.
use Rattle.std.proofs.Common.{◌≡◌, ◌≢◌, ◌⊎◌, inl, inr, ◌≤◌, ◌+◌, ℕ, Bool, true, false, List, [], ◌∷◌, Option, Some, None, map, refl, sym, subst, arith}
use Rattle.std.specs.Prelude.{◌==◌, is_some, if◌then◌else◌}
use Rattle.std.proofs.lemmas.Bool.{eqb-true, true≢false}
use Rattle.pocket_types.specs.Causes.{Rose, StaysUntold}
use Rattle.pocket_keeper.specs.Keeping.{AreAsBefore, IfBothTold}
use Rattle.pocket_keeper.specs.declared.rows.KeptRow.{KeptRow}
use Rattle.pocket_store.specs.Stores.{IsFirstBadRow, IsStoreOf}
use Rattle.pocket_core.specs.Opening.{AreRowsOf, IfTold, IsOpened, IsStartFault}
use Rattle.pocket_states.specs.States.{MachineState, StateView, stored_in}
use Rattle.pocket_core.specs.declared.opening.StartFault.{StartFault}
use Rattle.pocket_core.specs.declared.opening.StartFault.TheVariants.{KeeperFault, BadStore, Memory}
use Rattle.pocket_wire.specs.declared.request.Ended.{Ended}
use Rattle.pocket_wire.specs.declared.request.Ended.TheVariants.{Done}
use Rattle.pocket_api.specs.declared.reply.Reply.{Reply}
use Rattle.pocket_api.specs.declared.work.Work.{Work}
use Rattle.pocket_desk.specs.declared.view.Call.{Call}
use Rattle.pocket_serve.specs.Hands.{HandView}
use Rattle.pocket_serve.specs.Owners.{Shared}
use Rattle.pocket_serve.specs.Workers.{AreWorked}
use Rattle.pocket_serve.specs.declared.hand.WorkerEnd.{WorkerEnd}
use Rattle.pocket.specs.Calls.{CountsOver, IsKeptOver, OfficeFits, RoseBy, StateEnters, failures}
use Rattle.pocket_words.specs.declared.command.WordFault.{WordFault}
use Rattle.pocket_words.specs.declared.command.WordFault.TheVariants as words
use Rattle.pocket.specs.Runs.{AreRead, IsEndOf, IsOpeningFor, OnSession, end_of, word_end_of}
use Rattle.pocket.specs.declared.status.RunEnd.{RunEnd}
use Rattle.pocket.specs.declared.status.RunEnd.TheVariants as run

-- rows that nobody touched are as before
pub as_they_were : (rows : Option (List KeptRow)) → AreAsBefore rows rows
as_they_were None = tt
as_they_were (Some rows) = refl

-- what holds of the rows told now holds of those told before
told_before : (old new : Option (List KeptRow)) (P : List KeptRow → Type 0) → AreAsBefore old new → IfTold new P → IfBothTold old new (λ told _. P told)
told_before None new P same now = tt
told_before (Some before) None P same now = tt
told_before (Some before) (Some rows) P same now = subst P same now

-- why there was no session
pub opening_end : (Names : List ℕ → Type 0) (Ends : Ended → Type 0) (old new : Option (List KeptRow)) (before now : ℕ) (fault : StartFault) → AreAsBefore old new
    → IsStartFault new before now fault → IsEndOf Names Ends old new before now (end_of fault)
opening_end Names Ends old new before now KeeperFault same cause = cause
opening_end Names Ends old new before now (BadStore key) same bad = told_before old new (λ told. IsFirstBadRow told key) same bad
opening_end Names Ends old new before now Memory same wanting = tt

-- what was told before, if it is told to the end, was told in between, where it was as before
told_to_the_end : (old middle new : Option (List KeptRow)) (P : List KeptRow → Type 0) → AreAsBefore old middle → StaysUntold middle new → IfTold middle P
    → IfBothTold old new (λ told _. P told)
told_to_the_end None middle new P same untold h = tt
told_to_the_end (Some before) middle None P same untold h = tt
told_to_the_end (Some before) None (Some now) P same untold h = let none : is_some (Some now) ≡ false = untold refl in absurd (true≢false none)
told_to_the_end (Some before) (Some rows) (Some now) P same untold h = subst P same h

-- the state that was opened
pub opening_of : (Names : List ℕ → Type 0) (old middle new : Option (List KeptRow)) (admin : List ℕ) (s : StateView) → AreAsBefore old middle
    → StaysUntold middle new → Names admin → IsOpened middle admin s → IsOpeningFor Names old new s.opening
opening_of Names old middle new admin s same untold token opened = record {
  token = subst Names (sym opened.token) token;
  clients = opened.clients;
  sound = opened.sound;
  kept = told_to_the_end old middle new (λ told. IsStoreOf told (stored_in s.opening)) same untold opened.kept;
}

-- ---- counts

-- the count over calls didn't fall, and rose by the failures
pub counted_over : (calls : List (Call Work Reply)) (before now : ℕ) → CountsOver calls before now → (before ≤ now) × RoseBy (failures calls) before now
counted_over [] before now same = (omega (arith, same), omega (arith, same))
counted_over (call ∷ calls) before now (middle, one, more) =
    let rest = counted_over calls middle now more in by (call.reply.status == 500) refl rest.0 rest.1
  where
    by : (b : Bool) → call.reply.status == 500 ≡ b → middle ≤ now → RoseBy (failures calls) middle now
        → (before ≤ now) × RoseBy ((if b then 1 else 0) + failures calls) before now
    by true e later rose = let up : Rose before middle = one.failed (eqb-true call.reply.status 500 e) in (omega (arith, one.later, later), omega (arith, up, one.later, later, rose))
    by false e later rose = (omega (arith, one.later, later), omega (arith, one.later, later, rose))

-- its rows are those that are told
pub rows_opened : (rows : Option (List KeptRow)) (admin : List ℕ) (s : StateView) → IsOpened rows admin s → AreRowsOf rows s.opening
rows_opened None admin s opened = tt
rows_opened (Some rows) admin s opened = opened.kept.same

-- what is true of a session, and so more
pub of_session : {P Q : Ended → Type 0} (end : RunEnd) → ((ended : Ended) → P ended → Q ended) → OnSession end P → OnSession end Q
of_session (run.Session ended) more h = more ended h
of_session run.Words more h = tt
of_session run.KeeperFault more h = tt
of_session (run.BadStore key) more h = tt
of_session run.Memory more h = tt
of_session run.SourceFault more h = tt
of_session run.SinkFault more h = tt
of_session (run.Faults count) more h = tt
of_session run.BadInput more h = tt
of_session run.NotEmpty more h = tt

-- a keeper over calls, told from an earlier moment on
pub kept_from : (calls : List (Call Work Reply)) (old middle new : Option (List KeptRow)) (before between now : ℕ) → StaysUntold old middle → before ≤ between
    → IsKeptOver calls middle new between now → IsKeptOver calls old new before now
kept_from calls old middle new before between now untold later kept = record {
  untold = λ none. kept.untold (untold none);
  later = omega (arith, later, kept.later);
  failed = omega (arith, later, kept.failed);
}

-- ---- ends

-- the end of a fault of the words
pub word_read : (Names : List ℕ → Type 0) (fault : WordFault) → AreRead Names (word_end_of fault)
word_read Names words.BadWords = tt
word_read Names words.Memory = tt

pub bad_words : (Names : List ℕ → Type 0) (Ends : Ended → Type 0) (old new : Option (List KeptRow)) (before now : ℕ) (fault : WordFault)
    → (fault ≢ words.Memory → (token : List ℕ) → ¬ Names token) → IsEndOf Names Ends old new before now (word_end_of fault)
bad_words Names Ends old new before now words.BadWords bad = bad (λ e. cc)
bad_words Names Ends old new before now words.Memory bad = tt

-- any end, where the words name the program
pub named : (Names : List ℕ → Type 0) (token : List ℕ) (end : RunEnd) → Names token → AreRead Names end
named Names token (run.Session ended) names = (token, names)
named Names token run.Words names = tt
named Names token run.KeeperFault names = (token, names)
named Names token (run.BadStore key) names = (token, names)
named Names token run.Memory names = tt
named Names token run.SourceFault names = (token, names)
named Names token run.SinkFault names = (token, names)
named Names token (run.Faults count) names = (token, names)
named Names token run.BadInput names = (token, names)
named Names token run.NotEmpty names = (token, names)

-- a server that was started, or for which memory was wanting
pub served_end : (Names : List ℕ → Type 0) (old new : Option (List KeptRow)) (before now : ℕ) (end : RunEnd)
    → (end ≡ run.Session Done) ⊎ (end ≡ run.Memory) → IsEndOf Names (λ ended. ended ≡ Done) old new before now end
served_end Names old new before now end (inl e) = subst (IsEndOf Names (λ ended. ended ≡ Done) old new before now) (sym e) refl
served_end Names old new before now end (inr e) = subst (IsEndOf Names (λ ended. ended ≡ Done) old new before now) (sym e) tt

-- ---- servers

pub on_session : (end : RunEnd) (P : Ended → Type 0) → end ≡ run.Session Done → P Done → OnSession end P
on_session end P is done = subst (λ e. OnSession e P) (sym is) done

-- what workers did is told with equal names
pub worked_so : {H : Type 0} (view : H → HandView) (one two : MachineState) (history journal : List Work) (olds news left : List H)
    (ends workers : List WorkerEnd) → one ≡ two → journal ≡ history → left ≡ news → workers ≡ ends
    → AreWorked (OfficeFits one) (StateEnters one) Shared history (map view olds) (map view news) ends history
    → AreWorked (OfficeFits two) (StateEnters two) Shared journal (map view olds) (map view left) workers journal
worked_so view one two history journal olds news left ends workers same journal_is left_is workers_are worked =
    subst (λ o. AreWorked (OfficeFits o) (StateEnters o) Shared journal (map view olds) (map view left) workers journal) same
    (subst (λ h. AreWorked (OfficeFits one) (StateEnters one) Shared h (map view olds) (map view left) workers h) (sym journal_is)
    (subst (λ l. AreWorked (OfficeFits one) (StateEnters one) Shared history (map view olds) (map view l) workers history) (sym left_is)
    (subst (λ e. AreWorked (OfficeFits one) (StateEnters one) Shared history (map view olds) (map view news) e history) (sym workers_are) worked)))
