-- Pages of a sound world, and the trees of their records.
use Rattle.std.proofs.Common.{◌≡◌, ◌∙◌, ℕ, zero, suc, ◌+◌, ◌<◌, ◌≤◌, Bool, true, false, cond, List, [], ◌∷◌, ◌++◌, Option, Some, None, Ok, Err, IfSome, ap, arith, get_or, length, map, refl, subst, sym, take, true≢false}
use Rattle.std.specs.Prelude.{◌==◌, ◌≢◌, IfOk, Result, filter_map, min}
use Rattle.std.specs.List.{cons_option, sum_by}
use Rattle.std.specs.Option.{option_map_or}
use Rattle.std.specs.Str.{bytes_eq}
use Rattle.std.proofs.lemmas.List.{length-map, map-append, take_more}
use Rattle.std.proofs.lemmas.List.Elements.{filter_map-append}
use Rattle.std.proofs.lemmas.List.Sums.{count_by-le-length, length-filter, sum_by-cons}
use Rattle.pocket_types.specs.Chains.{◌>>=◌, or_refuse, refuse}
use Rattle.pocket_types.specs.Within.{collections_of}
use Rattle.pocket_types.specs.World.{shelf_named}
use Rattle.pocket_types.specs.declared.ids.Id.{Id}
use Rattle.pocket_types.specs.declared.json.Jv.{Jv}
use Rattle.pocket_types.specs.declared.names.Name.{Name}
use Rattle.pocket_types.specs.declared.records.Collection.{Collection}
use Rattle.pocket_types.specs.declared.records.Rec.{Rec}
use Rattle.pocket_types.specs.declared.requests.Action.TheVariants as action
use Rattle.pocket_types.specs.declared.requests.Ask.{Ask}
use Rattle.pocket_types.specs.declared.world.Shelf.{Shelf}
use Rattle.pocket_types.specs.declared.world.World.{World}
use Rattle.pocket_resolve.specs.Fields.{collection_named}
use Rattle.pocket_store.specs.SoundStates.{IsSoundWorld}
use Rattle.pocket_tables.specs.Worlds.{rec_at, recs_at}
use Rattle.pocket_gate.specs.Rules.{keeps_out}
use Rattle.pocket_gate.specs.declared.verdict.Verdict.TheVariants.{Locked}
use Rattle.pocket_read.specs.Filtering.{client_of}
use Rattle.pocket_read.specs.Pages.{Search, is_wanted, matched, page_of, page_size, search_of, searched}
use Rattle.pocket_read.specs.Sorting.{in_order, insert_by, key_of, sorted_ids, stands_before}
use Rattle.pocket_read.specs.declared.faults.ReadFault.{ReadFault}
use Rattle.pocket_read.specs.declared.faults.ReadFault.TheVariants.{Denied, Memory}
use Rattle.pocket_read.specs.declared.page.Page.{Page}
use Rattle.pocket_api.specs.Refusals.{because}
use Rattle.pocket_api.specs.declared.call.ListQuery.{ListQuery}
use Rattle.pocket_api.specs.declared.reply.Reply.{Reply}
use Rattle.pocket_api.specs.declared.why.Why.TheVariants as why
use Rattle.pocket_core.specs.Answers.{IsAnswer, answer_of}
use Rattle.pocket_core.specs.Lists.{IsSmall, list_outcome, listed_outcome, page_or_refusal, read_why, rec_trees, shown_page}
use Rattle.pocket_core.specs.Outcomes.{Outcome}
use Rattle.pocket_core.specs.Showing.{display_of, displayed, shown_of}
use Rattle.pocket_core.specs.declared.showing.Display.{Display}

module _ (w : World) (ask : Ask) (c : Collection) (display : Display) where
  abbrev tree_of : Rec → Jv
  tree_of = displayed w ask c display

  -- the trees with those of one id more
  pub rec_trees_more : (ids : List Id) (k : ℕ) (id : Id) → k < length ids → id ≡ get_or ids k id
      → rec_trees w ask c display (take (k + 1) ids) ≡ rec_trees w ask c display (take k ids) ++ map tree_of (cons_option (rec_at w c.name id) [])
  rec_trees_more ids k id within is =
      ap (λ l. map tree_of (filter_map (rec_at w c.name) l)) (take_more ids k id within ∙ ap (λ x. take k ids ++ x ∷ []) (sym is))
      ∙ ap (map tree_of) (filter_map-append (rec_at w c.name) (take k ids) (id ∷ []))
      ∙ map-append tree_of (filter_map (rec_at w c.name) (take k ids)) (cons_option (rec_at w c.name id) [])

-- ---- pages are small

length_insert : {T : Type 0} (before : T → T → Bool) (x : T) (ys : List T) → length (insert_by before x ys) ≡ suc (length ys)
length_insert before x [] = refl
length_insert before x (y ∷ ys) = by (length_insert before x ys) (before y x)
  where
    by : length (insert_by before x ys) ≡ suc (length ys) → (b : Bool) → length (cond b (y ∷ insert_by before x ys) (x ∷ y ∷ ys)) ≡ suc (suc (length ys))
    by rest true = ap suc rest
    by rest false = refl

length_in_order : {T : Type 0} (before : T → T → Bool) (xs : List T) → length (in_order before xs) ≡ length xs
length_in_order before [] = refl
length_in_order before (x ∷ xs) = length_insert before x (in_order before xs) ∙ ap suc (length_in_order before xs)

-- a collection has no more records than the world
no_more : (w : World) (name : Name) (ss : List Shelf) → length (option_map_or (λ s. s.recs) (shelf_named name ss) []) ≤ sum_by (λ s. length s.recs) ss
no_more w name [] = omega arith
no_more w name (s ∷ ss) = by (no_more w name ss) (sum_by-cons (λ s. length s.recs) s ss) (bytes_eq s.collection.name name)
  where
    by : length (option_map_or (λ s. s.recs) (shelf_named name ss) []) ≤ sum_by (λ s. length s.recs) ss
        → sum_by (λ s. length s.recs) (s ∷ ss) ≡ length s.recs + sum_by (λ s. length s.recs) ss
        → (b : Bool) → length (option_map_or (λ s. s.recs) (cond b (Some s) (shelf_named name ss)) []) ≤ sum_by (λ s. length s.recs) (s ∷ ss)
    by rest sum true = omega (arith, sum)
    by rest sum false = omega (arith, rest, sum)

module _ (w : World) (ask : Ask) (c : Collection) (query : ListQuery) (sound : IsSoundWorld w) where
  few_ids : (search : Search) → length (sorted_ids w ask c.name search.1 (matched w ask c search.0)) ≤ 200000
  few_ids (found, terms) =
      let recs = matched w ask c found in
      let keys = map (key_of w ask c.name terms) recs in
      let ids = length-map (in_order (stands_before terms) keys) (λ k. k.id) in
      let sorted = length_in_order (stands_before terms) keys in
      let made = length-map recs (key_of w ask c.name terms) in
      let kept = length-filter (is_wanted w ask c found) (recs_at w c.name) in
      let counted = count_by-le-length (is_wanted w ask c found) (recs_at w c.name) in
      omega (arith, ids, sorted, made, kept, counted, no_more w c.name w.shelves, sound.records)

  size_of_page : (asked : ℕ) → 1 ≤ page_size asked
  size_of_page asked = by asked (asked == 0) refl
    where
      by : (n : ℕ) (b : Bool) → (n == 0) ≡ b → 1 ≤ cond b 30 (min n 500)
      by n true e = omega arith
      by zero false e = absurd (true≢false e)
      by (suc n) false e = omega arith

  total_of : (skip : Bool) (n : ℕ) → n ≤ 200000 → IfSome (cond skip None (Some n)) (λ n. n ≤ 200000)
  total_of true n h = tt
  total_of false n h = h

  searched_small : (search : Search) → IsSmall (searched w ask c query search)
  searched_small (found, terms) = record {
    size = size_of_page query.per_page;
    total = total_of query.skip_total _ (few_ids (found, terms));
  }

  -- the page of a sound world is small
  pub page_is_small : (page : Page) → page_of w ask c query ≡ Ok page → IsSmall page
  unfolding page_of
  page_is_small page e = by (keeps_out ask.caller c.list_rule) (search_of (collections_of w) (client_of ask.caller c.name) query) e
    where
      by : (b : Bool) (found : Result Search ReadFault)
          → (refuse b (Denied (Locked c.name action.List)) >>= λ _. found >>= λ search. Ok (searched w ask c query search)) ≡ Ok page → IsSmall page
      by true found h = cc
      by false (Err f) h = cc
      by false (Ok search) h = let same : searched w ask c query search ≡ page = cc in subst IsSmall same (searched_small search)

-- ---- a list, with or without its collection

module _ (w : World) (ask : Ask) (name : List ℕ) (query : ListQuery) where
  abbrev outcome_in : Option Collection → Outcome
  outcome_in o = or_refuse o (because why.NoCollection) >>= listed_outcome w ask query

  pub list_found : (c : Collection) → collection_named (collections_of w) name ≡ Some c → list_outcome w ask name query ≡ listed_outcome w ask query c
  unfolding list_outcome
  list_found c e = ap outcome_in e

  pub list_without : collection_named (collections_of w) name ≡ None → list_outcome w ask name query ≡ Err (because why.NoCollection)
  unfolding list_outcome
  list_without e = ap outcome_in e

-- a list that is refused, but for want of memory, for which no reply is made
pub listed_refused : {E : Type 0} (w : World) (ask : Ask) (query : ListQuery) (c : Collection) (f : ReadFault) (at : ℕ) (result : Result Reply E)
    → (f ≢ Memory → page_of w ask c query ≡ Err f) → IfOk result (λ _. f ≢ Memory) → IfOk result (IsAnswer (answer_of at (Err (because (read_why f)))))
    → IfOk result (IsAnswer (answer_of at (listed_outcome w ask query c)))
listed_refused w ask query c f at (Ok reply) page known said =
    subst (λ p. IsAnswer (answer_of at (page_or_refusal p >>= shown_page w ask c (display_of (shown_of query)))) reply) (sym (page known)) said
listed_refused w ask query c f at (Err e) page known said = tt
