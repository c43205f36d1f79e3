-- Related records that are met one behind another.
use Rattle.std.proofs.Common.{◌≡◌, ◌≤◌, Bool, true, false, cond, List, [], ◌∷◌, ◌++◌, filter, length, map, take, refl, sym, ap, ◌∙◌, append-nil, Option, Some, None, arith}
use Rattle.std.specs.Prelude.{option_map}
use Rattle.std.specs.Option.{option_map_or}
use Rattle.std.specs.List.{cons_option}
use Rattle.std.proofs.lemmas.List.{length-map, map-append, take-append-le}
use Rattle.std.proofs.lemmas.List.Kept.{AllPairs-filter}
use Rattle.pocket_types.specs.Order.{IsBefore, Rises}
use Rattle.pocket_types.specs.declared.ids.Id.{Id}
use Rattle.pocket_types.specs.declared.names.Name.{Name}
use Rattle.pocket_types.specs.declared.records.Collection.{Collection}
use Rattle.pocket_types.specs.declared.records.Rec.{Rec}
use Rattle.pocket_types.specs.declared.world.World.{World}
use Rattle.pocket_tables.specs.Reads.{holds_id, referrers}
use Rattle.pocket_tables.specs.Worlds.{IsTabled, collection_at, id_of, recs_at}
use Rattle.pocket_tables.proofs.WorldLemmas.{ordered_from}
use Rattle.pocket_meaning.proofs.MeaningLemmas.{take_all}
use Rattle.pocket_meaning.specs.Members.{Member}
use Rattle.pocket_meaning.specs.Members as member
use Rattle.pocket_meaning.specs.Seen.{seen}
use Rattle.pocket_meaning.specs.declared.members.Member as lent
use Rattle.pocket_expand.specs.Met.{member_seen}

-- the records that hold an id rise by their own
pub referrers_rise : (w : World) (name field : Name) (id : Id) → IsTabled w → Rises id_of (referrers w name field id)
referrers_rise w name field id t = by (collection_at w name)
  where
    by : (o : Option Collection) → Rises id_of (option_map_or (λ c. filter (holds_id c field id) (recs_at w name)) o [])
    by None = λ i j d before within. absurd (omega (arith, within))
    by (Some c) = AllPairs-filter (λ x y. IsBefore (id_of x) (id_of y)) (holds_id c field id) (recs_at w name) ((ordered_from w t).ids name)

seen_more : (found : List lent.Member) (m : lent.Member) (rest : List Member) → map seen (found ++ m ∷ []) ++ rest ≡ map seen found ++ seen m ∷ rest
seen_more [] m rest = refl
seen_more (x ∷ found) m rest = ap (λ l. seen x ∷ l) (seen_more found m rest)

module _ (k : Collection) (p : Rec → Bool) (found : List lent.Member) (h : Rec) (rest left : List Rec) (all : List Member) where
  -- one record more, or none
  pub holder_more : (m : lent.Member) → option_map seen (Some m) ≡ cond (p h) (Some (member.Record k h)) None → left ≡ h ∷ rest
      → map seen found ++ map (member.Record k) (filter p left) ≡ all → map seen (found ++ m ∷ []) ++ map (member.Record k) (filter p rest) ≡ all
  holder_more m is next so_far =
      seen_more found m (map (member.Record k) (filter p rest)) ∙ by (p h) is ∙ ap (λ l. map seen found ++ map (member.Record k) (filter p l)) (sym next) ∙ so_far
    where
      by : (b : Bool) → option_map seen (Some m) ≡ cond b (Some (member.Record k h)) None
          → map seen found ++ seen m ∷ map (member.Record k) (filter p rest) ≡ map seen found ++ map (member.Record k) (cond b (h ∷ filter p rest) (filter p rest))
      by true e = let same : seen m ≡ member.Record k h = cc in ap (λ x. map seen found ++ x ∷ map (member.Record k) (filter p rest)) same
      by false e = cc

  pub holder_less : option_map seen None ≡ cond (p h) (Some (member.Record k h)) None → left ≡ h ∷ rest
      → map seen found ++ map (member.Record k) (filter p left) ≡ all → map seen found ++ map (member.Record k) (filter p rest) ≡ all
  holder_less is next so_far = by (p h) is ∙ ap (λ l. map seen found ++ map (member.Record k) (filter p l)) (sym next) ∙ so_far
    where
      by : (b : Bool) → option_map seen None ≡ cond b (Some (member.Record k h)) None
          → map seen found ++ map (member.Record k) (filter p rest) ≡ map seen found ++ map (member.Record k) (cond b (h ∷ filter p rest) (filter p rest))
      by true e = cc
      by false e = refl

-- where enough were found, and where none is left
pub holders_full : (found : List lent.Member) (left all : List Member) → length found ≤ 1000 → 1000 ≤ length found → map seen found ++ left ≡ all → map seen found ≡ take 1000 all
holders_full found left all few enough is =
    sym (take_all (map seen found) 1000 (omega (arith, few, length-map found seen))) ∙ sym (take-append-le 1000 (map seen found) left (omega (arith, enough, length-map found seen))) ∙ ap (take 1000) is

pub holders_end : (found : List lent.Member) (left all : List Member) → length found ≤ 1000 → left ≡ [] → map seen found ++ left ≡ all → map seen found ≡ take 1000 all
holders_end found left all few none is =
    let same : map seen found ≡ all = sym (append-nil (map seen found)) ∙ ap (λ l. map seen found ++ l) (sym none) ∙ is in
    sym (take_all (map seen found) 1000 (omega (arith, few, length-map found seen))) ∙ ap (take 1000) same

-- one related record more, or none
seen_one : (whole : Bool) (found : List lent.Member) (m : lent.Member) → map (member_seen whole) (found ++ m ∷ []) ≡ map (member_seen whole) found ++ member_seen whole m ∷ []
seen_one whole found m = map-append (member_seen whole) found (m ∷ [])

pub held_more : (whole : Bool) (found : List lent.Member) (m : lent.Member) (o : Option Member) (so_far : List Member) → option_map (member_seen whole) (Some m) ≡ o
    → map (member_seen whole) found ≡ so_far → map (member_seen whole) (found ++ m ∷ []) ≡ so_far ++ cons_option o []
held_more whole found m o so_far is are = seen_one whole found m ∙ ap (λ l. l ++ member_seen whole m ∷ []) are ∙ ap (λ x. so_far ++ cons_option x []) is

pub held_less : (whole : Bool) (found : List lent.Member) (o : Option Member) (so_far : List Member) → option_map (member_seen whole) None ≡ o
    → map (member_seen whole) found ≡ so_far → map (member_seen whole) found ≡ so_far ++ cons_option o []
held_less whole found o so_far is are = are ∙ sym (append-nil so_far) ∙ ap (λ x. so_far ++ cons_option x []) is
