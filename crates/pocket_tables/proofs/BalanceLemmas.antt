-- A delta takes from a sum what stood where its changes are, and adds what stands there afterwards.
use Rattle.std.proofs.Common.{◌≡◌, ◌⊎◌, inl, inr, ℕ, ◌+◌, List, [], refl, sym, ◌∙◌, ap, subst, All, Option, Some, None, arith}
use Rattle.std.specs.Prelude.{IfSome, IsTrue}
use Rattle.std.specs.List.{sum_by}
use Rattle.std.specs.Option.{option_map_or}
use Rattle.std.proofs.lemmas.List.Elements.{All-nil}
use Rattle.pocket_types.specs.Within.{collections_of}
use Rattle.pocket_types.specs.declared.deltas.Delta.{Delta}
use Rattle.pocket_types.specs.declared.records.Collection.{Collection}
use Rattle.pocket_types.specs.declared.records.Rec.{Rec}
use Rattle.pocket_types.specs.declared.world.World.{World}
use Rattle.pocket_tables.specs.Deltas.{FitsWorld, KeepsShape, collection_after, collections_after, inverse, rec_changes, recs_after}
use Rattle.pocket_tables.specs.Keyed.{find_key, is_touched, put_all}
use Rattle.pocket_tables.specs.Tallies.{Weight, all_weigh, changed_weigh}
use Rattle.pocket_tables.specs.Worlds.{MayStand, collection_at, id_of, name_of, recs_at}
use Rattle.pocket_tables.proofs.InverseLemmas.{fits_back}
use Rattle.pocket_tables.proofs.KeyLemmas.{found_bears_key}
use Rattle.pocket_tables.proofs.TallyLemmas.{GoesByShape, all_cut, cuts, cuts_after, cuts_back, nothing_left, sum-same, sums_agree, weigh_same, without_all}
use Rattle.pocket_tables.proofs.WorldLemmas.{IsOrdered, ids_after, names_after, names_before, none_may_stand, rec_changes_back, delta_recs_bear_keys}

module _ (d : Delta) (w : World) (ordered : IsOrdered w) (fits : FitsWorld d w) where
  -- the records that stand elsewhere than the changes are
  abbrev pub unchanged : List ℕ → List Rec
  unchanged = without_all (recs_at w) d.recs

  unchanged_after : (name : List ℕ) → without_all (recs_after d w) (inverse d w).recs name ≡ unchanged name
  unchanged_after name =
      ap (λ changes. put_all id_of (cuts changes) (recs_after d w name)) (rec_changes_back d w ordered fits name)
      ∙ ap (λ changes. put_all id_of changes (recs_after d w name)) (cuts_back id_of (λ id. find_key id_of id (recs_at w name)) (rec_changes d.recs name))
      ∙ cuts_after id_of (rec_changes d.recs name) (recs_at w name) (ordered.ids name) (delta_recs_bear_keys d w ordered fits name)

  all_touched_after : (name : List ℕ) → All (λ r. IsTrue (is_touched r.id (rec_changes d.recs name))) (recs_at w name) → unchanged name ≡ []
  all_touched_after name all = nothing_left id_of (rec_changes d.recs name) (recs_at w name) (ordered.ids name) all

  module _ (weight : Weight) (goes : GoesByShape weight) where
    abbrev weigh_unchanged : Collection → ℕ
    weigh_unchanged c = sum_by (weight c) (unchanged c.name)

    nothing_there : (name : List ℕ) (o : Option Collection) → IfSome o (λ c. c.name ≡ name) → unchanged name ≡ [] → option_map_or weigh_unchanged o 0 ≡ 0
    nothing_there name None named e = refl
    nothing_there name (Some c) named e = ap (sum_by (weight c)) (ap unchanged named ∙ e)

    by_cover : (name : List ℕ) (before after : Option Collection) → IfSome before (λ c. c.name ≡ name) → IfSome after (λ c. c.name ≡ name)
        → All (MayStand before) (recs_at w name) → KeepsShape before after ⊎ All (λ r. IsTrue (is_touched r.id (rec_changes d.recs name))) (recs_at w name)
        → option_map_or weigh_unchanged before 0 ≡ option_map_or weigh_unchanged after 0
    by_cover name before after old new stand (inr all) =
        nothing_there name before old (all_touched_after name all) ∙ sym (nothing_there name after new (all_touched_after name all))
    by_cover name None after old new stand (inl keeps) =
        let none = none_may_stand (recs_at w name) stand in
        sym (nothing_there name after new (all_touched_after name (subst (λ l. All (λ r. IsTrue (is_touched r.id (rec_changes d.recs name))) l) (sym none) (All-nil (λ r. IsTrue (is_touched r.id (rec_changes d.recs name)))))))
    by_cover name (Some b) None old new stand (inl keeps) = absurd keeps
    by_cover name (Some b) (Some a) old new stand (inl keeps) =
        sum-same (weight b) (weight a) (unchanged b.name) (λ i r within. goes b a keeps _) ∙ ap (λ n. sum_by (weight a) (unchanged n)) (old ∙ sym new)

    stay : all_weigh weight (collections_of w) unchanged ≡ all_weigh weight (collections_after d w) unchanged
    stay =
        sums_agree name_of weigh_unchanged (collections_of w) (collections_after d w) (names_before d w ordered fits) (names_after d w ordered fits)
        (λ name. by_cover name (collection_at w name) (collection_after d w name) (found_bears_key name_of name (collections_of w)) (found_bears_key name_of name (collections_after d w))
        (ordered.shapes name) (fits.covered name))

    pub sum_before : all_weigh weight (collections_of w) unchanged + changed_weigh weight (collections_of w) (recs_at w) d.recs ≡ all_weigh weight (collections_of w) (recs_at w)
    sum_before = all_cut weight (collections_of w) (recs_at w) d.recs (names_before d w ordered fits) ordered.ids fits.ids

    pub sum_after : all_weigh weight (collections_of w) unchanged + changed_weigh weight (collections_after d w) (recs_after d w) (inverse d w).recs
        ≡ all_weigh weight (collections_after d w) (recs_after d w)
    sum_after =
        let cut = all_cut weight (collections_after d w) (recs_after d w) (inverse d w).recs (names_after d w ordered fits) (ids_after d w ordered fits) (fits_back d w ordered fits).ids in
        let same = weigh_same weight (without_all (recs_after d w) (inverse d w).recs) unchanged unchanged_after (collections_after d w) in
        let kept = stay in
        omega (arith, cut, same, kept)
