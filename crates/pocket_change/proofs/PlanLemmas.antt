-- What was planned in parts is what is to be put.
use Rattle.std.proofs.Common.{◌≡◌, ◌∙◌, List, Option, Some, None, Result, Ok, Err, IfSome, refl, sym, ap, subst}
use Rattle.std.specs.Prelude.{All, MatchResult}
use Rattle.pocket_types.specs.Chains.{◌>>=◌}
use Rattle.pocket_types.specs.Within.{collections_of}
use Rattle.pocket_types.specs.declared.deltas.Delta.{Delta}
use Rattle.pocket_types.specs.declared.names.Name.{Name}
use Rattle.pocket_types.specs.declared.records.Collection.{Collection}
use Rattle.pocket_types.specs.declared.records.Rec.{Rec}
use Rattle.pocket_types.specs.declared.requests.Action.TheVariants as action
use Rattle.pocket_types.specs.declared.requests.Ask.{Ask}
use Rattle.pocket_types.specs.declared.world.World.{World}
use Rattle.pocket_tables.specs.Deltas.{world_after}
use Rattle.pocket_tables.specs.Keyed.{find_key}
use Rattle.pocket_tables.specs.Laws.{HasSoundParts}
use Rattle.pocket_tables.specs.Worlds.{MayStand, collection_at, name_of, rec_at}
use Rattle.pocket_gate.specs.Rules.{verdict}
use Rattle.pocket_check.specs.Validity.{faults_of}
use Rattle.pocket_change.specs.Answers.{Gives}
use Rattle.pocket_change.specs.Changes.{allowed, faultless, put_checked, puts, within_limits, world_with}
use Rattle.pocket_change.specs.Limits.{passed_limit}
use Rattle.pocket_change.specs.Plans.{Stands, admitted, admitted_put, checked, judged, put_judged, put_planned}
use Rattle.pocket_change.specs.declared.fault.ChangeFault.{ChangeFault}
use Rattle.pocket_change.proofs.StandingLemmas.{found_again, name_same, sound_there}

pub if_found : {A : Type 0} (o : Option A) (P : A → Type 0) → ((a : A) → o ≡ Some a → P a) → IfSome o P
if_found None P h = tt
if_found (Some a) P h = h a refl

-- ---- judgements

pub checked_is : (w : World) (c : Collection) (r : Rec) → put_checked w c r ≡ (checked (world_with w c r) c r >>= λ _. Ok r)
checked_is w c r = by (faultless (faults_of (world_with w c r) c r))
  where
    by : (first : Result (Unit {0}) ChangeFault) → (first >>= λ _. (within_limits (passed_limit (world_with w c r) c r) >>= λ _. Ok r))
        ≡ ((first >>= λ _. within_limits (passed_limit (world_with w c r) c r)) >>= λ _. Ok r)
    by (Ok t) = refl
    by (Err e) = refl

pub admitted_is : (w : World) (ask : Ask) (c : Collection) (r : Rec) → admitted_put w ask c r ≡ (admitted (world_with w c r) ask c r >>= λ _. Ok r)
admitted_is w ask c r = by (allowed (verdict (world_with w c r) ask action.Create c r))
  where
    by : (first : Result (Unit {0}) ChangeFault) → (first >>= λ _. put_checked w c r) ≡ ((first >>= λ _. checked (world_with w c r) c r) >>= λ _. Ok r)
    by (Ok t) = checked_is w c r
    by (Err e) = refl

pub judged_is : (w : World) (creator : Option Ask) (c : Collection) (r : Rec)
    → put_judged w creator c r ≡ (judged (world_with w c r) creator c r >>= λ _. Ok r)
judged_is w None c r = checked_is w c r
judged_is w (Some ask) c r = admitted_is w ask c r

-- ---- plans

-- the delta is given where the judgement is good, and its refusal where it isn't
abbrev pub IsTold : Result (Unit {0}) ChangeFault → Delta → Result Delta ChangeFault → Type 0
IsTold judged d result = MatchResult judged (λ _. result ≡ Ok d) (λ e. result ≡ Err e)

planned : (answer : Result Rec ChangeFault) (judgement judged : Result (Unit {0}) ChangeFault) (result : Result Delta ChangeFault) (r : Rec) (name : Name)
    → answer ≡ (judgement >>= λ _. Ok r) → Gives judged judgement → IsTold judged (puts name r) result → Gives result (answer >>= λ s. Ok (puts name s))
planned answer judgement (Ok u) result r name e g m =
    subst (λ x. Gives x (answer >>= λ s. Ok (puts name s))) (sym m) (ap (λ n. n >>= λ s. Ok (puts name s)) (e ∙ ap (λ v. v >>= λ _. Ok r) g))
planned answer judgement (Err f) result r name e g m =
    subst (λ x. Gives x (answer >>= λ s. Ok (puts name s))) (sym m) (λ told. ap (λ n. n >>= λ s. Ok (puts name s)) (e ∙ ap (λ v. v >>= λ _. Ok r) (g told)))

-- what stands by a name after a put, where the tables are in this world
pub record IsJudged (w : World) (name : Name) (r : Rec) (v : World) (judged : Result (Unit {0}) ChangeFault) (d : Delta) (result : Result Delta ChangeFault) : Type 0 where
  pub world : v ≡ world_after (puts name r) w
  pub collections : collections_of v ≡ collections_of w
  pub found : rec_at v name r.id ≡ Some r
  pub delta : d ≡ puts name r
  pub told : IsTold judged d result

named_put : (w : World) (name : Name) (c : Collection) (r : Rec) → collection_at w name ≡ Some c → world_after (puts name r) w ≡ world_with w c r
named_put w name c r e = ap (λ n. world_after (puts n r) w) (sym (name_same w name c e))

told_put : (w : World) (name : Name) (c : Collection) (r : Rec) (v : World) (judged : Result (Unit {0}) ChangeFault) (d : Delta) (result : Result Delta ChangeFault)
    → IsJudged w name r v judged d result → collection_at w name ≡ Some c → IsTold judged (puts c.name r) result
told_put w name c r v judged d result h e = subst (λ x. IsTold judged x result) (h.delta ∙ ap (λ n. puts n r) (sym (name_same w name c e))) h.told

still_there : (w v : World) (name : Name) (c : Collection) → collections_of v ≡ collections_of w → collection_at w name ≡ Some c → collection_at v name ≡ Some c
still_there w v name c same e = ap (λ (cs : List Collection). find_key name_of name cs) same ∙ e

-- what was judged where it stands is planned
pub put_given : (w : World) (name : Name) (creator : Option Ask) (r : Rec) (v : World) (verdict : Result (Unit {0}) ChangeFault) (d : Delta) (result : Result Delta ChangeFault)
    → IsJudged w name r v verdict d result
    → ((c : Collection) (s : Rec) → collection_at v name ≡ Some c → rec_at v name r.id ≡ Some s → Gives verdict (judged v creator c s))
    → (c : Collection) → collection_at w name ≡ Some c → Gives result (put_planned w creator c r)
put_given w name creator r v verdict d result h judges c e =
    planned (put_judged w creator c r) (judged (world_with w c r) creator c r) verdict result r c.name (judged_is w creator c r)
    (subst (λ x. Gives verdict (judged x creator c r)) (h.world ∙ named_put w name c r e) (judges c r (still_there w v name c h.collections e) h.found))
    (told_put w name c r v verdict d result h e)

-- what leads to a put has its delta
pub plan_given : (w : World) (name : Name) (answer : Collection → Result Rec ChangeFault) (creator : Option Ask) (r : Rec) (result : Result Delta ChangeFault)
    → ((c : Collection) → collection_at w name ≡ Some c → answer c ≡ put_judged w creator c r)
    → ((c : Collection) → collection_at w name ≡ Some c → Gives result (put_planned w creator c r))
    → IfSome (collection_at w name) (λ c. Gives result (answer c >>= λ s. Ok (puts c.name s)))
plan_given w name answer creator r result leads given =
    if_found (collection_at w name) _ (λ c e. subst (λ a. Gives result (a >>= λ s. Ok (puts c.name s))) (sym (leads c e)) (given c e))

-- ---- what stands

pub put_stands : (w v : World) (name : Name) (r : Rec) → All HasSoundParts w.shelves → MayStand (collection_at w name) r → collections_of v ≡ collections_of w
    → rec_at v name r.id ≡ Some r → Stands v name r.id
put_stands w v name r parts stands same found = by (collection_at w name) refl stands
  where
    by : (o : Option Collection) → collection_at w name ≡ o → MayStand o r → Stands v name r.id
    by None e h = absurd h
    by (Some c) e h = record {
      collection = c;
      rec = r;
      there = still_there w v name c same e;
      found = found;
      sound = sound_there w c parts (found_again w name c e);
      shape = h;
    }
