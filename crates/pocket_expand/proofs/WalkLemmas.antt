-- What stands under names, one name or record more.
use Rattle.std.proofs.Common.{◌≡◌, Bool, true, false, cond, ℕ, ◌+◌, ◌<◌, List, [], ◌∷◌, ◌++◌, append-nil, get_or, length, map, take, refl, sym, ap, ◌∙◌, Option, Some, None, rules}
use Rattle.std.specs.Prelude.{filter_map, option_and_then, option_map}
use Rattle.std.specs.List.{cons_option}
use Rattle.std.proofs.lemmas.List.{map-append}
use Rattle.std.proofs.lemmas.List.Elements.{filter_map-append}
use Rattle.std.proofs.lemmas.List.Sums.{fold-append}
use Rattle.pocket_types.specs.Callers.{is_admin}
use Rattle.pocket_types.specs.Maps.{put}
use Rattle.pocket_types.specs.declared.json.Jv.{Jv}
use Rattle.pocket_types.specs.declared.records.Collection.{Collection}
use Rattle.pocket_types.specs.declared.records.Rec.{Rec}
use Rattle.pocket_types.specs.declared.requests.Caller.{Caller}
use Rattle.pocket_types.specs.declared.world.World.{World}
use Rattle.pocket_meaning.specs.Members as member
use Rattle.pocket_meaning.specs.declared.members.Member as lent
use Rattle.pocket_meaning.proofs.ListLemmas.{take_one_more}
use Rattle.pocket_plan.specs.Cutting.{open_collection, open_rec}
use Rattle.pocket_gate.specs.Shown.{shown}
use Rattle.pocket_expand.specs.Expansion.{Expands, Related, all_under, branch_step, expanded_jv, expands, in_order, member_jv, related_by, related_jv, shown_collection, shown_rec, with_found}
use Rattle.pocket_expand.specs.Met.{found_seen, member_seen}
use Rattle.pocket_expand.specs.declared.names.Branch.{Branch, out-Branch, the_lemmas}
use Rattle.pocket_expand.specs.declared.related.Found.{Found}

in_order_more : (xs : List (List ℕ × Jv)) (o : Option (List ℕ × Jv)) → in_order (xs ++ cons_option o []) ≡ with_found (in_order xs) o
in_order_more xs None = ap in_order (append-nil xs)
in_order_more xs (Some x) = fold-append (λ members y. put y.0 y.1 members) [] xs (x ∷ [])

-- one name more
pub under_more : (f : Branch → Expands) (bs : List Branch) (i : ℕ) (b : Branch) (c : Collection) (r : Rec) → i < length bs → b ≡ get_or bs i b
    → in_order (all_under (map f (take (i + 1) bs)) c r) ≡ with_found (in_order (all_under (map f (take i bs)) c r)) (f b c r)
under_more f bs i b c r within is =
    ap (λ l. in_order (all_under l c r)) (ap (map f) (take_one_more bs i b within is) ∙ map-append f (take i bs) (b ∷ []))
    ∙ ap in_order (filter_map-append (λ (under : Expands). under c r) (map f (take i bs)) (f b ∷ []))
    ∙ in_order_more (all_under (map f (take i bs)) c r) (f b c r)

-- what stands under a name, by what stands under those below
pub expands_level : (seen : World) (b : Branch) (c : Collection) (r : Rec)
    → expands seen b c r ≡ branch_step seen (record { name = (out-Branch b).name; lead = (out-Branch b).lead; below = map (expands seen) (out-Branch b).below }) c r
unfolding expands
expands_level seen b c r = search (rules, the_lemmas)

-- what stands under a name, as its records were met
pub under_found : (seen : World) (whole : Bool) (b : Branch) (c : Collection) (r : Rec) (found : Found) (trees : List Jv) → Some (found_seen whole found) ≡ related_by seen c r (out-Branch b).lead
    → trees ≡ filter_map (member_jv (map (expands seen) (out-Branch b).below)) (map (member_seen whole) found.members.items)
    → expands seen b c r ≡ option_map (λ tree. ((out-Branch b).name, tree)) (related_jv found.several trees)
under_found seen whole b c r found trees leads are =
    expands_level seen b c r ∙ ap (option_and_then under) (sym leads) ∙ ap (λ ts. option_map (λ tree. ((out-Branch b).name, tree)) (related_jv found.several ts)) (sym are)
  where
    under : Related → Option (List ℕ × Jv)
    under related = option_map (λ tree. ((out-Branch b).name, tree)) (related_jv related.several (filter_map (member_jv (map (expands seen) (out-Branch b).below)) related.members))

pub under_nothing : (seen : World) (b : Branch) (c : Collection) (r : Rec) → None ≡ related_by seen c r (out-Branch b).lead → expands seen b c r ≡ None
under_nothing seen b c r none = expands_level seen b c r ∙ ap (option_and_then under) (sym none)
  where
    under : Related → Option (List ℕ × Jv)
    under related = option_map (λ tree. ((out-Branch b).name, tree)) (related_jv related.several (filter_map (member_jv (map (expands seen) (out-Branch b).below)) related.members))

-- the JSON of a record as its caller sees it
pub member_is : (seen : World) (who : Caller) (below : List Branch) (c : Collection) (r : Rec)
    → Some (expanded_jv seen below (shown_collection who c) (shown_rec who c r)) ≡ member_jv (map (expands seen) below) (shown (is_admin who) (member.Record c r))
member_is seen who below c r = by (is_admin who)
  where
    by : (b : Bool) → Some (expanded_jv seen below (cond b c (open_collection c)) (cond b r (open_rec c r))) ≡ member_jv (map (expands seen) below) (shown b (member.Record c r))
    by true = refl
    by false = refl

-- what is no record has no JSON
pub no_member : (below : List Expands) (whole : Bool) (t : List ℕ)
    → (member_jv below (shown whole member.Nobody) ≡ None) × (member_jv below (shown whole (member.Item t)) ≡ None) × (member_jv below (shown whole member.Sent) ≡ None)
no_member below true t = (refl, refl, refl)
no_member below false t = (refl, refl, refl)

-- one related record more
pub trees_more : (below : List Expands) (whole : Bool) (ms : List lent.Member) (i : ℕ) (m : lent.Member) → i < length ms → m ≡ get_or ms i m
    → filter_map (member_jv below) (map (member_seen whole) (take (i + 1) ms)) ≡ filter_map (member_jv below) (map (member_seen whole) (take i ms)) ++ cons_option (member_jv below (member_seen whole m)) []
trees_more below whole ms i m within is =
    ap (λ l. filter_map (member_jv below) (map (member_seen whole) l)) (take_one_more ms i m within is)
    ∙ ap (filter_map (member_jv below)) (map-append (member_seen whole) (take i ms) (m ∷ []))
    ∙ filter_map-append (member_jv below) (map (member_seen whole) (take i ms)) (member_seen whole m ∷ [])

pub tree_more : (old new so_far : List Jv) (tree : Jv) (o : Option Jv) → new ≡ old ++ tree ∷ [] → old ≡ so_far → Some tree ≡ o → new ≡ so_far ++ cons_option o []
tree_more old new so_far tree o is are there = is ∙ ap (λ l. l ++ tree ∷ []) are ∙ ap (λ x. so_far ++ cons_option x []) there

pub no_tree : (old so_far : List Jv) (o : Option Jv) → old ≡ so_far → None ≡ o → old ≡ so_far ++ cons_option o []
no_tree old so_far o are none = are ∙ sym (append-nil so_far) ∙ ap (λ x. so_far ++ cons_option x []) none
