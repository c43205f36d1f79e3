-- What is made before a record is kept, and what keeping it comes to.
use Rattle.std.specs.Prelude.{◌≡◌, ◌⊎◌, ℕ, Bool, false, true, List, [], ◌∷◌, Option, Some, None, Result, Ok, Err, IsSome, if◌then◌else◌}
use Rattle.std.specs.Option.{option_map_or}
use Rattle.std.specs.Str.{bytes_eq}
use Rattle.pocket_types.specs.Causes.{Rose}
use Rattle.pocket_types.specs.Within.{collections_of}
use Rattle.pocket_types.specs.declared.deltas.Delta.{Delta}
use Rattle.pocket_types.specs.declared.records.Collection.{Collection}
use Rattle.pocket_types.specs.declared.records.Rec.{Rec}
use Rattle.pocket_types.specs.declared.requests.Ask.{Ask}
use Rattle.pocket_types.specs.declared.world.World.{World}
use Rattle.pocket_keeper.specs.Keeping.{AreAsBefore, IfBothTold, committed}
use Rattle.pocket_keeper.specs.Texts.{rec_row}
use Rattle.pocket_keeper.specs.declared.rows.KeepFault.{KeepFault}
use Rattle.pocket_keeper.specs.declared.rows.KeepFault.TheVariants.{Failed, Memory}
use Rattle.pocket_keeper.specs.declared.rows.KeptRow.{KeptRow}
use Rattle.pocket_resolve.specs.Fields.{collection_named}
use Rattle.pocket_tables.specs.Worlds.{rec_at}
use Rattle.pocket_change.specs.Changes.{world_with}
use Rattle.pocket_states.specs.Putting.{row_stands}
use Rattle.pocket_api.specs.Refusals.{IsNoMemory}
use Rattle.pocket_api.specs.declared.reply.Reply.{Reply}
use Rattle.pocket_core.specs.Answers.{IsAnswer, accepted_answer, answer_of, has_no_room, no_room}
use Rattle.pocket_core.specs.Changing.{Put}
use Rattle.pocket_core.specs.Entering.{rows_with_put, unkept_answer}
use Rattle.pocket_core.specs.Outcomes.{Tally, Tree}
use Rattle.pocket_core.specs.Showing.{displayed}
use Rattle.pocket_core.specs.declared.entering.Prepared.{Prepared}
use Rattle.pocket_core.specs.declared.showing.Display.{Display}

-- whether the row of the record that was there has the text of the row of this one
abbrev pub is_kept : Collection → Option Rec → Rec → Bool
is_kept c old r = option_map_or (λ before. bytes_eq (rec_row c before).value (rec_row c r).value) old false

-- the row that has to be committed
abbrev pub row_wanted : Collection → Option Rec → Rec → Option KeptRow
row_wanted c old r = if is_kept c old r then None else Some (rec_row c r)

-- the reply that shows a record which took the place of another, and the row that has to be committed
pub record IsPrepared (w : World) (ask : Ask) (display : Display) (put : Put) (old : Option Rec) (at : ℕ) (made : Prepared) : Type 0 where
  pub said : IsAnswer (accepted_answer (Tree (displayed w ask put.collection display put.rec)) at true) made.reply
  pub row_is : made.row ≡ row_wanted put.collection old put.rec

-- the delta that leads back from a record to what was there
abbrev pub back_from : Put → Option Rec → Delta
back_from put old = record { shelves = []; recs = record { collection = put.collection.name; id = put.rec.id; after = old } ∷ [] }

-- in this world the record stands, and a delta leads back from it
pub record LeadsBack (w : World) (back : Delta) (put : Put) (old : Option Rec) : Type 0 where
  pub back_is : back ≡ back_from put old
  pub there : collection_named (collections_of w) put.collection.name ≡ Some put.collection
  pub stands : rec_at w put.collection.name put.rec.id ≡ Some put.rec

-- ---- places

-- there is no place for one more command, of this cost: the history is full, or memory is wanting
abbrev pub HasNoPlace : Tally → ℕ → Reply → Type 0
HasNoPlace t cost reply =
    ((has_no_room t cost ≡ true) × IsAnswer (answer_of t.entries (Err (no_room t cost))) reply) ⊎ IsNoMemory t.entries reply

-- ---- keeping

-- rows with one that is committed, where there is one
abbrev pub with_row : Option KeptRow → List KeptRow → List KeptRow
with_row None told = told
with_row (Some row) told = committed told (row ∷ []) []

-- what was prepared is said, and its row is kept
pub record IsKeptAs {E : Type 0} (prepared : Result Prepared E) (old new : Option (List KeptRow)) (reply : Reply) : Type 0 where
  pub made : Prepared
  pub prepared_is : prepared ≡ Ok made
  pub said : reply ≡ made.reply
  pub rows : IfBothTold old new (λ before now. now ≡ with_row made.row before)

-- a row had to be committed
abbrev pub WantsRow : {E : Type 0} → Result Prepared E → Type 0
WantsRow prepared = (made : Prepared) × (prepared ≡ Ok made) × IsSome made.row

-- what is said where a row isn't kept: that the keeper failed exactly where it did, else that memory is wanting
abbrev pub SaysUnkept : KeepFault → ℕ → Reply → Type 0
SaysUnkept Failed at reply = IsAnswer (unkept_answer at) reply
SaysUnkept Memory at reply = IsNoMemory at reply

-- nothing is kept: memory was wanting, or a row had to be committed and the keeper failed
pub record IsNotKept {E : Type 0} (prepared : Result Prepared E) (old new : Option (List KeptRow)) (before now at : ℕ) (reply : Reply) : Type 0 where
  pub said : (IsNoMemory at reply × (now ≡ before)) ⊎ (IsAnswer (unkept_answer at) reply × Rose before now × WantsRow prepared)
  pub rows : AreAsBefore old new

-- ---- putting

-- a record was put into the world, it is said so, and its row is kept
pub record IsPutAs (ask : Ask) (display : Display) (put : Put) (w now : World) (old new : Option (List KeptRow)) (at : ℕ) (reply : Reply) : Type 0 where
  pub world : now ≡ world_with w put.collection put.rec
  pub said : IsAnswer (accepted_answer (Tree (displayed (world_with w put.collection put.rec) ask put.collection display put.rec)) at true) reply
  pub rows : IfBothTold old new (λ before after. after ≡ rows_with_put w put before)

-- no record was put: memory was wanting, or a row had to be committed and the keeper failed
pub record IsNotPut (put : Put) (w now : World) (old new : Option (List KeptRow)) (before after at : ℕ) (reply : Reply) : Type 0 where
  pub world : now ≡ w
  pub said : (IsNoMemory at reply × (after ≡ before))
      ⊎ (IsAnswer (unkept_answer at) reply × Rose before after × (row_stands w put.collection put.rec ≡ false))
  pub rows : AreAsBefore old new
