-- Creations and updates after the body of their request was read.
use Rattle.std.proofs.Common.{◌≡◌, ◌∙◌, ℕ, List, Option, Some, None, Result, Ok, Err, refl, sym, ap}
use Rattle.pocket_types.specs.Chains.{◌>>=◌, or_refuse, refuse_as}
use Rattle.pocket_types.specs.declared.ids.Id.{Id}
use Rattle.pocket_types.specs.declared.json.Jv.{Jv}
use Rattle.pocket_types.specs.declared.records.Cell.{Cell}
use Rattle.pocket_types.specs.declared.records.Collection.{Collection}
use Rattle.pocket_types.specs.declared.records.Rec.{Rec}
use Rattle.pocket_types.specs.declared.requests.Action.TheVariants as action
use Rattle.pocket_types.specs.declared.requests.Ask.{Ask}
use Rattle.pocket_types.specs.declared.requests.Sent.{Sent}
use Rattle.pocket_types.specs.declared.world.World.{World}
use Rattle.pocket_types.specs.Profile.{IsProfiled}
use Rattle.pocket_types.specs.Sound.{AllFit, IsSoundCollection}
use Rattle.pocket_types.specs.declared.requests.Caller.{Caller}
use Rattle.pocket_tables.specs.Worlds.{HasShape, rec_at, shapes_of}
use Rattle.pocket_check.specs.Bodies.{given_id, sent, sent_over, with_sent}
use Rattle.pocket_check.specs.Cells.{zero_cells}
use Rattle.pocket_check.specs.Laws.{SentCellsHaveShape, ZeroCellsFit}
use Rattle.pocket_check.proofs.AnswerLemmas.{both_ok, not_ok, was_told}
use Rattle.pocket_change.specs.Changes.{cells_under, created, of_check, old_put, unlocked, updated}
use Rattle.pocket_change.specs.Plans.{body_given, none_updated, old_updated, tree_created}
use Rattle.pocket_change.specs.declared.fault.ChangeFault.{ChangeFault}
use Rattle.pocket_change.specs.declared.fault.ChangeFault.TheVariants as fault

-- ---- answers one after another

same_fault : {A B E : Type 0} (q r : E) → ◌≡◌ {A = Result A E} (Err q) (Err r) → ◌≡◌ {A = Result B E} (Err q) (Err r)
same_fault q r e = cc

gone_on : {A B E : Type 0} (u : Result (Unit {0}) E) (m : Result A E) (rest : A → Result B E) (x : A) → (u >>= λ _. m) ≡ Ok x → (u >>= λ _. (m >>= rest)) ≡ rest x
gone_on (Ok t) m rest x e = ap (λ n. n >>= rest) e
gone_on (Err r) m rest x e = absurd (not_ok r x e)

stopped : {A B E : Type 0} (u : Result (Unit {0}) E) (m : Result A E) (rest : A → Result B E) (r : E) → (u >>= λ _. m) ≡ Err r → (u >>= λ _. (m >>= rest)) ≡ Err r
stopped (Ok t) m rest r e = ap (λ n. n >>= rest) e
stopped (Err q) m rest r e = same_fault q r e

-- ---- creations

pub created_tree : (w : World) (ask : Ask) (c : Collection) (body : Option Jv) (words : List ℕ) (tree : Jv) → body_given ask action.Create c body ≡ Ok tree
    → created w ask c body words ≡ tree_created w ask c words tree
unfolding created
created_tree w ask c body words tree e = gone_on (unlocked ask action.Create c) (or_refuse body fault.BadBody) (tree_created w ask c words) tree e

pub created_stops : (w : World) (ask : Ask) (c : Collection) (body : Option Jv) (words : List ℕ) (r : ChangeFault) → body_given ask action.Create c body ≡ Err r
    → created w ask c body words ≡ Err r
unfolding created
created_stops w ask c body words r e = stopped (unlocked ask action.Create c) (or_refuse body fault.BadBody) (tree_created w ask c words) r e

-- ---- updates

-- the update that a tree asks for of what stands at an id
abbrev tree_updated : World → Ask → Collection → Option Rec → Jv → Result Rec ChangeFault
tree_updated w ask c old tree =
    refuse_as of_check (sent_over ask.caller c (cells_under c old) tree) >>= λ fields. (or_refuse old fault.NoRecord >>= λ r. old_put w ask c fields r)

pub updated_old : (w : World) (ask : Ask) (c : Collection) (id : Id) (body : Option Jv) (tree : Jv) (old : Rec) → body_given ask action.Update c body ≡ Ok tree
    → rec_at w c.name id ≡ Some old → updated w ask c id body ≡ old_updated w ask c old tree
unfolding updated
updated_old w ask c id body tree old e q =
    gone_on (unlocked ask action.Update c) (or_refuse body fault.BadBody) (tree_updated w ask c (rec_at w c.name id)) tree e
    ∙ ap (λ o. tree_updated w ask c o tree) q

pub updated_none : (w : World) (ask : Ask) (c : Collection) (id : Id) (body : Option Jv) (tree : Jv) → body_given ask action.Update c body ≡ Ok tree
    → rec_at w c.name id ≡ None → updated w ask c id body ≡ none_updated ask c tree
unfolding updated
updated_none w ask c id body tree e q =
    gone_on (unlocked ask action.Update c) (or_refuse body fault.BadBody) (tree_updated w ask c (rec_at w c.name id)) tree e
    ∙ ap (λ o. tree_updated w ask c o tree) q

pub updated_stops : (w : World) (ask : Ask) (c : Collection) (id : Id) (body : Option Jv) (r : ChangeFault) → body_given ask action.Update c body ≡ Err r
    → updated w ask c id body ≡ Err r
unfolding updated
updated_stops w ask c id body r e = stopped (unlocked ask action.Update c) (or_refuse body fault.BadBody) (tree_updated w ask c (rec_at w c.name id)) r e

-- ---- fields that were sent

pub sent_of_old : (who : Caller) (c : Collection) (old : Rec) (tree : Jv) → sent who c (Some old) tree ≡ sent_over who c old.cells tree
unfolding sent
sent_of_old who c old tree = refl

-- what follows fields that are read over a record's cells
old_read : {B : Type 0} (who : Caller) (c : Collection) (old : Rec) (cells : List Cell) (tree : Jv) (m : Result (List Sent) ChangeFault) (next : List Sent → Result B ChangeFault)
    → old.cells ≡ cells → refuse_as of_check (sent who c (Some old) tree) ≡ m → (refuse_as of_check (sent_over who c cells tree) >>= next) ≡ (m >>= next)
old_read who c old cells tree m next same e =
    ap (λ n. n >>= next) (ap (λ xs. refuse_as of_check (sent_over who c xs tree)) (sym same) ∙ ap (refuse_as of_check) (sym (sent_of_old who c old tree)) ∙ e)

pub old_goes_on : (w : World) (ask : Ask) (c : Collection) (old : Rec) (tree : Jv) (fields : List Sent) → refuse_as of_check (sent ask.caller c (Some old) tree) ≡ Ok fields
    → old_updated w ask c old tree ≡ old_put w ask c fields old
old_goes_on w ask c old tree fields e = old_read ask.caller c old old.cells tree (Ok fields) (λ xs. old_put w ask c xs old) refl e

pub old_stops : (w : World) (ask : Ask) (c : Collection) (old : Rec) (tree : Jv) (r : ChangeFault) → refuse_as of_check (sent ask.caller c (Some old) tree) ≡ Err r
    → old_updated w ask c old tree ≡ Err r
old_stops w ask c old tree r e = old_read ask.caller c old old.cells tree (Err r) (λ xs. old_put w ask c xs old) refl e

no_record : List Sent → Result Rec ChangeFault
no_record fields = Err fault.NoRecord

-- over a record of zero cells a body is read as over none
pub none_goes_on : (ask : Ask) (c : Collection) (none : Rec) (tree : Jv) (fields : List Sent) → none.cells ≡ zero_cells c
    → refuse_as of_check (sent ask.caller c (Some none) tree) ≡ Ok fields → none_updated ask c tree ≡ Err fault.NoRecord
unfolding no_record
none_goes_on ask c none tree fields zero e = old_read ask.caller c none (zero_cells c) tree (Ok fields) no_record zero e

pub none_stops : (ask : Ask) (c : Collection) (none : Rec) (tree : Jv) (r : ChangeFault) → none.cells ≡ zero_cells c
    → refuse_as of_check (sent ask.caller c (Some none) tree) ≡ Err r → none_updated ask c tree ≡ Err r
unfolding no_record
none_stops ask c none tree r zero e = old_read ask.caller c none (zero_cells c) tree (Err r) no_record zero e

-- ---- shapes

pub new_shape : ZeroCellsFit → SentCellsHaveShape → (who : Caller) (c : Collection) (tree : Jv) (fields : List Sent) (r : Rec) → IsSoundCollection c → IsProfiled tree
    → refuse_as of_check (sent who c None tree) ≡ Ok fields → r.cells ≡ with_sent fields c (zero_cells c) → HasShape (shapes_of c) r
unfolding sent
new_shape zero_fit have_shape who c tree fields r sound profile e cells =
    let read = both_ok (given_id tree) _ _ (was_told of_check (sent who c None tree) fields e) in
    have_shape who c (zero_cells c) tree fields r (record { sound = sound; old_fit = zero_fit c sound; profile = profile; read = read.2; cells = cells })

pub old_shape : SentCellsHaveShape → (who : Caller) (c : Collection) (old : Rec) (tree : Jv) (fields : List Sent) (r : Rec) → IsSoundCollection c → AllFit c.fields old.cells
    → IsProfiled tree → refuse_as of_check (sent who c (Some old) tree) ≡ Ok fields → r.cells ≡ with_sent fields c old.cells → HasShape (shapes_of c) r
old_shape have_shape who c old tree fields r sound fit profile e cells =
    let read = sym (sent_of_old who c old tree) ∙ was_told of_check (sent who c (Some old) tree) fields e in
    have_shape who c old.cells tree fields r (record { sound = sound; old_fit = fit; profile = profile; read = read; cells = cells })
