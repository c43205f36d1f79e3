-- Which fault a body has doesn't depend on old cells.
use Rattle.std.proofs.Common.{◌≡◌, List, [], ◌∷◌, filter_map, length, zip, Option, Some, Result, Ok, Err, if◌then◌else◌, refl, arith}
use Rattle.std.specs.Result.{result_err}
use Rattle.pocket_types.specs.Chains.{◌>>=◌, each}
use Rattle.pocket_types.specs.declared.json.Jv.{Jv}
use Rattle.pocket_types.specs.declared.json.Member.{Member}
use Rattle.pocket_types.specs.declared.records.Cell.{Cell}
use Rattle.pocket_types.specs.declared.records.Collection.{Collection}
use Rattle.pocket_types.specs.declared.records.Field.{Field}
use Rattle.pocket_types.specs.declared.records.Rec.{Rec}
use Rattle.pocket_types.specs.declared.requests.Caller.{Caller}
use Rattle.pocket_types.specs.declared.requests.Sent.{Sent}
use Rattle.pocket_check.specs.Bodies.{change_under, field_sent, is_ignored, keys_of, members_sent, read_change, sent, sent_by, sent_fields, sent_over}
use Rattle.pocket_check.specs.declared.change.Change.{Change}
use Rattle.pocket_check.specs.declared.fault.CheckFault.{CheckFault}

-- what is made of an answer has its fault
same_made : {A B C D : Type 0} (r : Result A CheckFault) (q : Result B CheckFault) (f : A → C) (g : B → D) → result_err r ≡ result_err q
    → result_err (r >>= λ x. Ok (f x)) ≡ result_err (q >>= λ y. Ok (g y))
same_made (Ok x) (Ok y) f g h = refl
same_made (Ok x) (Err e) f g h = h
same_made (Err e) (Ok y) f g h = h
same_made (Err e) (Err d) f g h = h

abbrev found_over : Caller → List Member → List Field → List Cell → Result (List (Option Sent)) CheckFault
found_over who ms fields old = each (field_sent who ms) (zip fields old)

same_fault : (who : Caller) (ms : List Member) (fields : List Field) (old other : List Cell) → length old ≡ length other
    → result_err (found_over who ms fields old) ≡ result_err (found_over who ms fields other)
same_fault who ms [] old other h = refl
same_fault who ms (f ∷ fields) [] [] h = refl
same_fault who ms (f ∷ fields) [] (d ∷ other) h = absurd (omega (arith, h))
same_fault who ms (f ∷ fields) (c ∷ old) [] h = absurd (omega (arith, h))
same_fault who ms (f ∷ fields) (c ∷ old) (d ∷ other) h =
    by (each (read_change f) (filter_map (change_under ms) (if is_ignored who f then [] else keys_of f))) (same_fault who ms fields old other (omega (arith, h)))
  where
    by : (r : Result (List (Change × Cell)) CheckFault) → result_err (found_over who ms fields old) ≡ result_err (found_over who ms fields other)
        → result_err ((r >>= λ changes. Ok (sent_by f c changes)) >>= λ y. found_over who ms fields old >>= λ ys. Ok (y ∷ ys))
        ≡ result_err ((r >>= λ changes. Ok (sent_by f d changes)) >>= λ y. found_over who ms fields other >>= λ ys. Ok (y ∷ ys))
    by (Ok changes) rest = same_made (found_over who ms fields old) (found_over who ms fields other) (λ ys. sent_by f c changes ∷ ys) (λ ys. sent_by f d changes ∷ ys) rest
    by (Err e) rest = refl

same_fields_fault : (who : Caller) (c : Collection) (old other : List Cell) (ms : List Member) → length old ≡ length other
    → result_err (sent_fields who c old ms) ≡ result_err (sent_fields who c other ms)
unfolding sent_fields
same_fields_fault who c old other ms h =
    same_made (found_over who ms c.fields old) (found_over who ms c.fields other) (λ found. filter_map (λ x. x) found) (λ found. filter_map (λ x. x) found)
    (same_fault who ms c.fields old other h)

same_body_fault : (who : Caller) (c : Collection) (old other : List Cell) (body : Jv) → length old ≡ length other
    → result_err (sent_over who c old body) ≡ result_err (sent_over who c other body)
unfolding sent_over
same_body_fault who c old other body h = by (members_sent body)
  where
    by : (r : Result (List Member) CheckFault) → result_err (r >>= sent_fields who c old) ≡ result_err (r >>= sent_fields who c other)
    by (Ok ms) = same_fields_fault who c old other ms h
    by (Err e) = refl

pub same_update_fault : (who : Caller) (c : Collection) (old other : Rec) (body : Jv) → length old.cells ≡ length other.cells
    → result_err (sent who c (Some old) body) ≡ result_err (sent who c (Some other) body)
unfolding sent
same_update_fault who c old other body h = same_body_fault who c old.cells other.cells body h
