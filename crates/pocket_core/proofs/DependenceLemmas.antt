-- On what a view and a list depend: the collections, what the caller sees, and the records that are listed.
use Rattle.std.proofs.Common.{◌≡◌, ◌∙◌, ℕ, Bool, true, false, cond, not, ◌&&◌, List, [], ◌∷◌, All, Option, Some, None, Ok, Err, IfSome, ap, ap₂, filter, length, map, refl, subst, sym, take, drop, true≢false}
use Rattle.std.specs.Prelude.{◌-◌, ◌*◌, Result, filter_map, option_and_then, option_map, IsUtf8, ⊤}
use Rattle.std.specs.List.{AllByRecursion, cons_option}
use Rattle.std.specs.Option.{option_map_or}
use Rattle.std.specs.Result.{result_ok}
use Rattle.std.specs.Str.{bytes_eq}
use Rattle.std.proofs.lemmas.List.Elements.{All-cons, All-drop, All-filter, All-from_recursion, All-head, All-map, All-same, All-tail, All-take, recursion_from_All}
use Rattle.pocket_types.specs.Callers.{is_admin}
use Rattle.pocket_types.specs.Chains.{◌>>=◌, or_refuse, refuse}
use Rattle.pocket_types.specs.Order.{Rises}
use Rattle.pocket_types.specs.Sound.{IsSoundCollection, IsWritten}
use Rattle.pocket_types.specs.Within.{collections_of}
use Rattle.pocket_types.specs.World.{rec_of, shelf_named}
use Rattle.pocket_types.specs.declared.ids.Id.{Id}
use Rattle.pocket_types.specs.declared.json.Jv.{Jv}
use Rattle.pocket_types.specs.declared.names.Name.{Name}
use Rattle.pocket_types.specs.declared.records.Collection.{Collection}
use Rattle.pocket_types.specs.declared.records.Rec.{Rec}
use Rattle.pocket_types.specs.declared.records.Rule.{Rule}
use Rattle.pocket_types.specs.declared.records.Rule.TheVariants as rule
use Rattle.pocket_types.specs.declared.requests.Action.TheVariants as action
use Rattle.pocket_types.specs.declared.requests.Ask.{Ask}
use Rattle.pocket_types.specs.declared.requests.Caller.{Caller}
use Rattle.pocket_types.specs.declared.resolved.Modifier.TheVariants.{Plain}
use Rattle.pocket_types.specs.declared.resolved.Resolved.{Resolved}
use Rattle.pocket_types.specs.declared.resolved.Root.TheVariants as root
use Rattle.pocket_types.specs.declared.values.Value.{Value}
use Rattle.pocket_types.specs.declared.world.Shelf.{Shelf}
use Rattle.pocket_types.specs.declared.world.World.{World}
use Rattle.pocket_types.proofs.OrderLemmas.{rises_filter}
use Rattle.pocket_filter.specs.Parsed.{parsed}
use Rattle.pocket_filter.proofs.OneVerdict.{one_verdict}
use Rattle.pocket_filter.proofs.ParsedLemmas.{parsed_is}
use Rattle.pocket_resolve.specs.Fields.{collection_named}
use Rattle.pocket_resolve.specs.Filters.{resolution}
use Rattle.pocket_resolve.specs.declared.purpose.Purpose.TheVariants.{RuleOf}
use Rattle.pocket_meaning.specs.Meaning.{holds}
use Rattle.pocket_meaning.specs.Members.{Member}
use Rattle.pocket_meaning.specs.Members as member
use Rattle.pocket_meaning.specs.Related.{root_list}
use Rattle.pocket_meaning.specs.Values.{member_value}
use Rattle.pocket_store.specs.SoundStates.{IsSoundShelf, IsSoundWorld}
use Rattle.pocket_store.specs.Stores.{HoldsFilter, Resolves, RulesResolve}
use Rattle.pocket_tables.specs.Worlds.{IsTabled, id_of, rec_at, recs_at, shelf_name}
use Rattle.pocket_tables.proofs.KeyLemmas.{found_holds}
use Rattle.pocket_tables.proofs.WorldLemmas.{each_found, ordered_from}
use Rattle.pocket_plan.specs.Cutting.{open_collection, open_rec}
use Rattle.pocket_gate.specs.Rules.{filter_verdict, is_allowed, keeps_out, may, rule_filter, rule_verdict, is_locked, verdict}
use Rattle.pocket_gate.specs.Seen.{seen_home, seen_world}
use Rattle.pocket_gate.specs.Shown.{member_at, shown}
use Rattle.pocket_gate.specs.declared.verdict.Verdict.{Verdict}
use Rattle.pocket_gate.specs.declared.verdict.Verdict.TheVariants as verdict_is
use Rattle.pocket_gate.proofs.ShownLemmas.{collection_on, if_so, member_at_seen, named_again}
use Rattle.pocket_gate.proofs.Tests.{find-map}
use Rattle.pocket_expand.specs.Expansion.{expanded_jv, shown_collection, shown_rec}
use Rattle.pocket_read.specs.Filtering.{client_of, passes}
use Rattle.pocket_read.specs.Pages.{Search, matched, page_in, page_number, page_of, page_size, search_of, searched}
use Rattle.pocket_read.specs.Sorting.{end_of, first_or_nobody, in_order, insert_by, key_of, sort_value, sorted_keys, stands_before}
use Rattle.pocket_read.specs.declared.faults.ReadFault.{ReadFault}
use Rattle.pocket_read.specs.declared.faults.ReadFault.TheVariants.{Denied}
use Rattle.pocket_read.specs.declared.keys.SortKey.{SortKey}
use Rattle.pocket_read.specs.declared.page.Page.{Page}
use Rattle.pocket_read.specs.declared.terms.SortTerm.{SortTerm}
use Rattle.pocket_api.specs.Asks.{bare_ask}
use Rattle.pocket_api.specs.Refusals.{because, no_data, refusal_jv}
use Rattle.pocket_api.specs.declared.call.Call.{Call}
use Rattle.pocket_api.specs.declared.call.Call.TheVariants as call
use Rattle.pocket_api.specs.declared.call.ListQuery.{ListQuery}
use Rattle.pocket_api.specs.declared.call.Shown.{Shown}
use Rattle.pocket_api.specs.declared.call.Target.{Target}
use Rattle.pocket_api.specs.declared.why.Why.TheVariants as why
use Rattle.pocket_api.specs.declared.work.Work.{Work}
use Rattle.pocket_core.specs.Answers.{after, answer_of, call_outcome, work_outcome}
use Rattle.pocket_core.specs.Laws.{ListsTellWhatIsSeen, SeesTheSame, ViewsTellWhatIsSeen, listed, listed_in, told}
use Rattle.pocket_core.specs.Lists.{list_outcome, page_jv, page_or_refusal, rec_trees, shown_page}
use Rattle.pocket_core.specs.Outcomes.{Empty, Enters, IsReading, Outcome, Shows, Tree}
use Rattle.pocket_core.specs.Showing.{cut_by, display_of, displayed, shown_of}
use Rattle.pocket_states.specs.States.{IsSoundState, MachineState, sender}
use Rattle.pocket_core.specs.Views.{admitted, rec_named_outcome, rec_outcome, view_outcome}
use Rattle.pocket_core.specs.declared.showing.Display.{Display}
use Rattle.pocket_states.proofs.PutWorldLemmas.{sound_tabled}
use Rattle.pocket_core.proofs.ReadingLemmas.{answer_is, list_reads, view_reads}

-- ---- rules of a sound world

-- a rule that resolves has its filter
resolved_rule : (cs : List Collection) (name : Name) (text : List ℕ) → IsUtf8 text → (h : HoldsFilter cs name text)
    → rule_filter cs name text ≡ Some h.resolved
unfolding rule_filter
resolved_rule cs name text utf8 h =
    let is : parsed text ≡ Ok h.tree = one_verdict text (parsed text) (Ok h.tree) (parsed_is text utf8) h.parses in
    ap (λ answer. option_and_then (λ tree. result_ok (resolution cs (RuleOf name) tree)) (result_ok answer)) is ∙ ap result_ok h.resolves

-- what stands in a sound world is sound, and its rules resolve
pub record StandsSoundly (cs : List Collection) (c : Collection) : Type 0 where
  pub alone : IsSoundCollection c
  pub rules : RulesResolve cs c

stands_soundly : (w : World) (name : List ℕ) (c : Collection) → IsSoundWorld w → collection_named (collections_of w) name ≡ Some c
    → StandsSoundly (collections_of w) c
stands_soundly w name c sound there =
    by (shelf_named name w.shelves) (found_holds shelf_name (IsSoundShelf w) name w.shelves sound.shelves) (sym (collection_on w name) ∙ there)
  where
    by : (o : Option Shelf) → IfSome o (IsSoundShelf w) → option_map (λ s. s.collection) o ≡ Some c → StandsSoundly (collections_of w) c
    by None h e = cc
    by (Some s) h e =
        let same : s.collection ≡ c = cc in subst (StandsSoundly (collections_of w)) same (record { alone = h.alone; rules = h.rules })

-- ---- a view

-- a verdict that lets through, or is false for the view
abbrev IsTellable : Verdict → Type 0
IsTellable verdict_is.Allowed = ⊤
IsTellable (verdict_is.Locked c act) = ⊥
IsTellable (verdict_is.RuleFalse c act) = act ≡ action.View

module _ (ask : Ask) (c : Collection) where
  -- a rule of a sound world that isn't locked lets through, or is false
  is_tellable : (w : World) (r : Rec) → StandsSoundly (collections_of w) c → keeps_out ask.caller c.view_rule ≡ false
      → IsTellable (verdict w ask action.View c r)
  unfolding verdict
  is_tellable w r stands free = by (is_admin ask.caller) c.view_rule stands.alone.view_rule stands.rules.view_rule free
    where
      held : (b : Bool) → IsTellable (cond b verdict_is.Allowed (verdict_is.RuleFalse c.name action.View))
      held true = tt
      held false = refl

      by : (b : Bool) (x : Rule) → IsWritten x → Resolves (collections_of w) c.name x → (not b && is_locked x) ≡ false
          → IsTellable (cond b verdict_is.Allowed (rule_verdict w ask action.View c.name r x))
      by true x written h e = tt
      by false rule.Locked written h e = absurd (true≢false e)
      by false rule.Free written h e = tt
      by false (rule.Filter text) written h e =
          subst (λ o. IsTellable (filter_verdict w ask action.View c.name r o)) (sym (resolved_rule (collections_of w) c.name text written.0 h))
          (held (holds w ask c.name r h.resolved))

  -- the record of an id, where the view rule admits it, as the caller sees it
  abbrev viewed_of : World → Collection → Rec → Option Member
  viewed_of w k r = if_so (may w ask action.View k r) (shown (is_admin ask.caller) (member.Record k r))

  abbrev viewed : World → Id → Option Member
  viewed w id = option_and_then (viewed_of w c) (rec_at w c.name id)

  -- it is what stands in the world that the caller sees
  viewed_is : (w : World) (id : Id) → IsTabled w → collection_named (collections_of w) c.name ≡ Some c
      → member_at (seen_world w ask) c.name id ≡ viewed w id
  viewed_is w id t there =
      member_at_seen w ask c.name id t ∙ ap (option_and_then (λ k. option_and_then (viewed_of w k) (rec_at w c.name id))) there

  -- a record and its collection as the caller is shown them
  shown_is : (r : Rec) → shown (is_admin ask.caller) (member.Record c r) ≡ member.Record (shown_collection ask.caller c) (shown_rec ask.caller c r)
  shown_is r = by (is_admin ask.caller)
    where
      by : (b : Bool) → shown b (member.Record c r) ≡ member.Record (cond b c (open_collection c)) (cond b r (open_rec c r))
      by true = refl
      by false = refl

  -- what is told of the record that is viewed, or of none: in the world that the caller sees
  abbrev told_of : World → Display → Option Member → ℕ × Option Jv
  told_of seen display (Some (member.Record k r)) = (200, Some (cut_by display.paths (expanded_jv seen display.names.branches k r)))
  told_of seen display _ = (404, Some (refusal_jv 404 no_data))

  module _ (w : World) (asked : Shown) (at : ℕ) where
    told_rec : (r : Rec) → IsTellable (verdict w ask action.View c r)
        → told (answer_of at (rec_outcome w ask c asked r)) ≡ told_of (seen_world w ask) (display_of asked) (viewed_of w c r)
    told_rec r h = by (verdict w ask action.View c r) h
      where
        by : (x : Verdict) → IsTellable x
            → told (answer_of at (admitted x >>= λ _. Ok (Shows (Tree (displayed w ask c (display_of asked) r)))))
            ≡ told_of (seen_world w ask) (display_of asked) (if_so (is_allowed x) (shown (is_admin ask.caller) (member.Record c r)))
        by verdict_is.Allowed h = sym (ap (λ m. told_of (seen_world w ask) (display_of asked) (Some m)) (shown_is r))
        by (verdict_is.Locked name act) h = absurd h
        by (verdict_is.RuleFalse name act) h = ap (λ a. told (answer_of at (Err (because (why.RuleFalse name a))))) h

    told_named : (id : Id) → StandsSoundly (collections_of w) c → keeps_out ask.caller c.view_rule ≡ false
        → told (answer_of at (rec_named_outcome w ask c id asked)) ≡ told_of (seen_world w ask) (display_of asked) (viewed w id)
    told_named id stands free = by (rec_at w c.name id)
      where
        by : (o : Option Rec) → told (answer_of at (or_refuse o (because why.NoRecord) >>= rec_outcome w ask c asked))
            ≡ told_of (seen_world w ask) (display_of asked) (option_and_then (viewed_of w c) o)
        by None = refl
        by (Some r) = told_rec r (is_tellable w r stands free)

-- ---- lists

-- a filter by two tests is one after the other
filter_both : {X : Type 0} (p q : X → Bool) (xs : List X) → filter (λ x. p x && q x) xs ≡ filter q (filter p xs)
filter_both p q [] = refl
filter_both p q (x ∷ xs) = by (filter_both p q xs) (p x)
  where
    by : filter (λ x. p x && q x) xs ≡ filter q (filter p xs) → (b : Bool)
        → cond (b && q x) (x ∷ filter (λ x. p x && q x) xs) (filter (λ x. p x && q x) xs) ≡ filter q (cond b (x ∷ filter p xs) (filter p xs))
    by rest true = ap (λ l. cond (q x) (x ∷ l) l) rest
    by rest false = rest

-- what all items have, they have in order
module _ {X : Type 0} (P : X → Type 0) (before : X → X → Bool) where
  all_insert : (x : X) (ys : List X) → P x → All P ys → All P (insert_by before x ys)
  all_insert x [] p h = All-cons P x [] p h
  all_insert x (y ∷ ys) p h = by (all_insert x ys p (All-tail P y ys h)) (before y x)
    where
      by : All P (insert_by before x ys) → (b : Bool) → All P (cond b (y ∷ insert_by before x ys) (x ∷ y ∷ ys))
      by rest true = All-cons P y (insert_by before x ys) (All-head P y ys h) rest
      by rest false = All-cons P x (y ∷ ys) p h

  all_in_order : (xs : List X) → All P xs → All P (in_order before xs)
  all_in_order [] h = h
  all_in_order (x ∷ xs) h = all_insert x (in_order before xs) (All-head P x xs h) (all_in_order xs (All-tail P x xs h))

both : {X : Type 0} (P Q R : X → Type 0) → ((x : X) → P x → Q x → R x) → (xs : List X) → AllByRecursion P xs → AllByRecursion Q xs → AllByRecursion R xs
both P Q R f [] p q = tt
both P Q R f (x ∷ xs) p q = (f x p.0 q.0, both P Q R f xs p.1 q.1)

module _ (ask : Ask) (c : Collection) where
  -- a record as the caller sees it
  abbrev bare : Rec → Rec
  bare = shown_rec ask.caller c

  bare_id : (r : Rec) → (bare r).id ≡ r.id
  bare_id r = by (is_admin ask.caller)
    where
      by : (b : Bool) → (cond b r (open_rec c r)).id ≡ r.id
      by true = refl
      by false = refl

  bare_found : (id : Id) (recs : List Rec) → rec_of id (map bare recs) ≡ option_map bare (rec_of id recs)
  bare_found id recs = by (is_admin ask.caller)
    where
      by : (b : Bool) → rec_of id (map (λ r. cond b r (open_rec c r)) recs) ≡ option_map (λ r. cond b r (open_rec c r)) (rec_of id recs)
      by true = find-map (λ r. r) (λ r. bytes_eq r.id id) recs
      by false = find-map (open_rec c) (λ r. bytes_eq r.id id) recs

  -- whether what is seen of a record passes, and what it is sorted by: of the world only what the caller sees counts
  abbrev passes_seen : World → Option Resolved → Rec → Bool
  passes_seen seen None r = true
  passes_seen seen (Some f) r = holds seen ask c.name r f

  abbrev value_seen : World → Rec → SortTerm → Value
  value_seen seen r t = member_value (end_of seen t.path.steps (first_or_nobody (root_list seen ask c.name r root.Home))) t.field Plain

  abbrev key_seen : World → List SortTerm → Rec → SortKey
  key_seen seen terms r = record { values = map (value_seen seen r) terms; id = r.id }

  -- the page of what is seen of the listed records, their trees, and what is shown
  abbrev page_seen : World → ListQuery → Search → List Rec → Page
  page_seen seen query (found, terms) recs =
      page_in (map (λ k. k.id) (in_order (stands_before terms) (map (key_seen seen terms) (filter (passes_seen seen found) recs)))) query

  abbrev tree_seen : World → Display → Rec → Jv
  tree_seen seen display r = cut_by display.paths (expanded_jv seen display.names.branches (shown_collection ask.caller c) r)

  abbrev trees_seen : World → Display → List Rec → List Id → List Jv
  trees_seen seen display recs ids = map (tree_seen seen display) (filter_map (λ id. rec_of id recs) ids)

  abbrev shown_seen : World → ListQuery → Search → List Rec → Outcome
  shown_seen seen query search recs =
      let page = page_seen seen query search recs in Ok (Shows (Tree (page_jv (trees_seen seen (display_of (shown_of query)) recs page.ids) page)))

  module _ (w : World) (t : IsTabled w) (there : collection_named (collections_of w) c.name ≡ Some c) where
    -- the records that the list rule admits
    abbrev admitted_recs : List Rec
    admitted_recs = filter (may w ask action.List c) (recs_at w c.name)

    -- what the caller sees of a record of the collection
    home_is : (r : Rec) → seen_home w ask c.name r ≡ bare r
    unfolding seen_home
    home_is r = ap (cond (is_admin ask.caller) r) (by (shelf_named c.name w.shelves) (sym (collection_on w c.name) ∙ there))
      where
        by : (o : Option Shelf) → option_map (λ s. s.collection) o ≡ Some c → option_map_or (λ s. open_rec s.collection r) o r ≡ open_rec c r
        by None e = cc
        by (Some s) e = let same : s.collection ≡ c = cc in ap (λ k. open_rec k r) same

    passes_is : (found : Option Resolved) (r : Rec) → passes w ask c.name found r ≡ passes_seen (seen_world w ask) found (bare r)
    passes_is None r = refl
    passes_is (Some f) r = ap (λ x. holds (seen_world w ask) ask c.name x f) (home_is r)

    key_is : (terms : List SortTerm) (r : Rec) → key_of w ask c.name terms r ≡ key_seen (seen_world w ask) terms (bare r)
    unfolding sort_value
    key_is terms r = (λ i. record { values = map (value_seen (seen_world w ask) (home_is r i)) terms; id = sym (bare_id r) i })

    -- the keys of the records that pass are those of what is seen of them
    abbrev KeysAre : Option Resolved → List SortTerm → List Rec → Type 0
    KeysAre found terms recs =
        map (key_of w ask c.name terms) (filter (passes w ask c.name found) recs)
        ≡ map (key_seen (seen_world w ask) terms) (filter (passes_seen (seen_world w ask) found) (map bare recs))

    keys_are : (found : Option Resolved) (terms : List SortTerm) (recs : List Rec) → KeysAre found terms recs
    keys_are found terms [] = refl
    keys_are found terms (r ∷ recs) =
        ap (λ b. map (key_of w ask c.name terms) (cond b (r ∷ passed) passed)) (passes_is found r)
        ∙ by (keys_are found terms recs) (passes_seen (seen_world w ask) found (bare r))
      where
        passed : List Rec
        passed = filter (passes w ask c.name found) recs

        seen : List Rec
        seen = filter (passes_seen (seen_world w ask) found) (map bare recs)

        by : KeysAre found terms recs → (b : Bool)
            → map (key_of w ask c.name terms) (cond b (r ∷ passed) passed) ≡ map (key_seen (seen_world w ask) terms) (cond b (bare r ∷ seen) seen)
        by rest true = ap₂ (λ k ks. k ∷ ks) (key_is terms r) rest
        by rest false = rest

    -- the page depends on what is seen of the listed records alone
    page_is : (query : ListQuery) (search : Search)
        → searched w ask c query search ≡ page_seen (seen_world w ask) query search (map bare admitted_recs)
    page_is query (found, terms) =
        ap (λ keys. page_in (map (λ k. k.id) (in_order (stands_before terms) keys)) query)
        (ap (map (key_of w ask c.name terms)) (filter_both (may w ask action.List c) (passes w ask c.name found) (recs_at w c.name))
        ∙ keys_are found terms admitted_recs)

    -- an id under which what is seen of a listed record stands
    abbrev IsListed : Id → Type 0
    IsListed id = option_map bare (rec_at w c.name id) ≡ rec_of id (map bare admitted_recs)

    -- each listed record stands there, since the records rise by id
    admitted_listed : All (λ r. IsListed r.id) admitted_recs
    admitted_listed =
        All-from_recursion (λ r. IsListed r.id) admitted_recs
        (both Stands (λ r. rec_of r.id admitted_recs ≡ Some r) (λ r. IsListed r.id)
        (λ r here listed. ap (option_map bare) (here ∙ sym listed) ∙ sym (bare_found r.id admitted_recs)) admitted_recs
        (recursion_from_All Stands admitted_recs (All-filter (may w ask action.List c) Stands recs (each_found id_of recs rising)))
        (recursion_from_All (λ r. rec_of r.id admitted_recs ≡ Some r) admitted_recs
        (each_found id_of admitted_recs (rises_filter id_of (may w ask action.List c) recs rising))))
      where
        recs : List Rec
        recs = recs_at w c.name

        Stands : Rec → Type 0
        Stands r = rec_of r.id recs ≡ Some r

        rising : Rises id_of recs
        rising = (ordered_from w t).ids c.name

    keys_listed : (found : Option Resolved) (terms : List SortTerm) → All (λ k. IsListed k.id) (sorted_keys w ask c.name terms (matched w ask c found))
    keys_listed found terms =
        all_in_order (λ k. IsListed k.id) (stands_before terms) (map (key_of w ask c.name terms) (matched w ask c found))
        (All-map (λ k. IsListed k.id) (key_of w ask c.name terms) (matched w ask c found)
        (All-same (λ r. IsListed r.id) (matched w ask c found) (filter (passes w ask c.name found) admitted_recs)
        (filter_both (may w ask action.List c) (passes w ask c.name found) (recs_at w c.name))
        (All-filter (passes w ask c.name found) (λ r. IsListed r.id) admitted_recs admitted_listed)))

    -- so do those of the ids on a page
    ids_listed : (query : ListQuery) (search : Search) → AllByRecursion IsListed (searched w ask c query search).ids
    ids_listed query (found, terms) =
        let keys = sorted_keys w ask c.name terms (matched w ask c found) in
        let ids = map (λ k. k.id) keys in
        let size = page_size query.per_page in
        let before = (page_number query.page - 1) * size in
        recursion_from_All IsListed (take size (drop before ids))
        (All-take IsListed size (drop before ids) (All-drop IsListed before ids (All-map IsListed (λ k. k.id) keys (keys_listed found terms))))

    -- and so do the trees of its records
    trees_are : (display : Display) (ids : List Id) → AllByRecursion IsListed ids
        → rec_trees w ask c display ids ≡ trees_seen (seen_world w ask) display (map bare admitted_recs) ids
    trees_are display [] h = refl
    trees_are display (id ∷ ids) h =
        let rest = filter_map (λ id. rec_of id (map bare admitted_recs)) ids in
        by (trees_are display ids h.1) (rec_at w c.name id) ∙ ap (λ o. map (tree_seen (seen_world w ask) display) (cons_option o rest)) h.0
      where
        by : rec_trees w ask c display ids ≡ trees_seen (seen_world w ask) display (map bare admitted_recs) ids → (o : Option Rec)
            → map (displayed w ask c display) (cons_option o (filter_map (rec_at w c.name) ids))
            ≡ map (tree_seen (seen_world w ask) display) (cons_option (option_map bare o) (filter_map (λ id. rec_of id (map bare admitted_recs)) ids))
        by rest None = rest
        by rest (Some r) = ap (λ l. displayed w ask c display r ∷ l) rest

    page_shown : (query : ListQuery) (search : Search)
        → shown_page w ask c (display_of (shown_of query)) (searched w ask c query search)
        ≡ shown_seen (seen_world w ask) query search (map bare admitted_recs)
    page_shown query search =
        let display = display_of (shown_of query) in
        let page = searched w ask c query search in
        ap (λ trees. Ok (Shows (Tree (page_jv trees page)))) (trees_are display page.ids (ids_listed query search))
        ∙ ap (λ p. Ok (Shows (Tree (page_jv (trees_seen (seen_world w ask) display (map bare admitted_recs) p.ids) p)))) (page_is query search)

-- ---- two worlds of which a caller sees the same

module _ (w v : World) (ask : Ask) (sound : IsSoundWorld w) (other : IsSoundWorld v) (same : collections_of w ≡ collections_of v)
    (sees : seen_world w ask ≡ seen_world v ask) where
  there_too : (c : Collection) → collection_named (collections_of w) c.name ≡ Some c → collection_named (collections_of v) c.name ≡ Some c
  there_too c there = ap (λ cs. collection_named cs c.name) (sym same) ∙ there

  -- the same record is viewed
  viewed_same : (c : Collection) → collection_named (collections_of w) c.name ≡ Some c → (id : Id) → viewed ask c w id ≡ viewed ask c v id
  viewed_same c there id =
      sym (viewed_is ask c w id (sound_tabled w sound) there)
      ∙ ap (λ seen. member_at seen c.name id) sees
      ∙ viewed_is ask c v id (sound_tabled v other) (there_too c there)

  -- what is told of a view is the same
  pub views_agree : (at place : ℕ) (target : Target) (asked : Shown)
      → told (answer_of at (view_outcome w ask target asked)) ≡ told (answer_of place (view_outcome v ask target asked))
  unfolding view_outcome
  views_agree at place target asked =
      by (collection_named (collections_of w) target.collection) refl
      ∙ ap (λ cs. told (answer_of place (outcome_in v (collection_named cs target.collection)))) same
    where
      outcome_in : World → Option Collection → Outcome
      outcome_in u o =
          or_refuse o (because why.NoCollection) >>= λ c.
          refuse (keeps_out ask.caller c.view_rule) (because (why.Locked c.name action.View)) >>= λ _. rec_named_outcome u ask c target.id asked

      on : (c : Collection) → collection_named (collections_of w) c.name ≡ Some c → (b : Bool) → keeps_out ask.caller c.view_rule ≡ b
          → told (answer_of at (refuse b (because (why.Locked c.name action.View)) >>= λ _. rec_named_outcome w ask c target.id asked))
          ≡ told (answer_of place (refuse b (because (why.Locked c.name action.View)) >>= λ _. rec_named_outcome v ask c target.id asked))
      on c there true e = refl
      on c there false e =
          told_named ask c w asked at target.id (stands_soundly w c.name c sound there) e
          ∙ ap₂ (λ seen m. told_of ask c seen (display_of asked) m) sees (viewed_same c there target.id)
          ∙ sym (told_named ask c v asked place target.id (stands_soundly v c.name c other (there_too c there)) e)

      by : (o : Option Collection) → collection_named (collections_of w) target.collection ≡ o
          → told (answer_of at (outcome_in w o)) ≡ told (answer_of place (outcome_in v o))
      by None e = refl
      by (Some c) e = on c (named_again (collections_of w) target.collection c (sym e)) (keeps_out ask.caller c.view_rule) refl

  -- a list comes to the same, where the same records are on it
  pub lists_agree : (name : List ℕ) (query : ListQuery) → listed w ask name ≡ listed v ask name
      → list_outcome w ask name query ≡ list_outcome v ask name query
  unfolding list_outcome page_of
  lists_agree name query lists =
      by (collection_named (collections_of w) name) refl
      (lists ∙ ap (λ cs. option_map_or (listed_in v ask) (collection_named cs name) []) (sym same))
      ∙ ap (λ cs. outcome_in v (collection_named cs name)) same
    where
      paged : World → Collection → Bool → Result Search ReadFault → Outcome
      paged u c b found =
          page_or_refusal (refuse b (Denied (verdict_is.Locked c.name action.List)) >>= λ _. found >>= λ search. Ok (searched u ask c query search))
          >>= shown_page u ask c (display_of (shown_of query))

      outcome_in : World → Option Collection → Outcome
      outcome_in u o =
          or_refuse o (because why.NoCollection) >>= λ c.
          paged u c (keeps_out ask.caller c.list_rule) (search_of (collections_of u) (client_of ask.caller c.name) query)

      on : (c : Collection) → collection_named (collections_of w) c.name ≡ Some c → listed_in w ask c ≡ listed_in v ask c
          → (b : Bool) (found : Result Search ReadFault) → paged w c b found ≡ paged v c b found
      on c there lists true found = refl
      on c there lists false (Err f) = refl
      on c there lists false (Ok search) =
          page_shown ask c w (sound_tabled w sound) there query search
          ∙ ap₂ (λ seen recs. shown_seen ask c seen query search recs) sees lists
          ∙ sym (page_shown ask c v (sound_tabled v other) (there_too c there) query search)

      by : (o : Option Collection) → collection_named (collections_of w) name ≡ o
          → option_map_or (listed_in w ask) o [] ≡ option_map_or (listed_in v ask) o [] → outcome_in w o ≡ outcome_in v o
      by None e lists = refl
      by (Some c) e lists =
          on c (named_again (collections_of w) name c (sym e)) lists (keeps_out ask.caller c.list_rule)
          (search_of (collections_of w) (client_of ask.caller c.name) query)
          ∙ ap (λ cs. paged v c (keeps_out ask.caller c.list_rule) (search_of cs (client_of ask.caller c.name) query)) same

-- ---- two states in which a sender sees the same

-- what is told of an outcome doesn't depend on its place
told_anywhere : (at place : ℕ) (o : Outcome) → told (answer_of at o) ≡ told (answer_of place o)
told_anywhere at place (Ok (Shows Empty)) = refl
told_anywhere at place (Ok (Shows (Tree tree))) = refl
told_anywhere at place (Ok (Enters s Empty)) = refl
told_anywhere at place (Ok (Enters s (Tree tree))) = refl
told_anywhere at place (Err cause) = refl

module _ (s t : MachineState) (work : Work) (sound : IsSoundState s) (other : IsSoundState t) (sees : SeesTheSame s t work) where
  -- the sender of the first state in the second world
  abbrev ask_of : Caller → Ask
  ask_of who = bare_ask who work

  one_seen : seen_world s.world (ask_of (sender s work)) ≡ seen_world t.world (ask_of (sender s work))
  one_seen = sees.seen ∙ ap (λ who. seen_world t.world (ask_of who)) (sym sees.caller)

  -- the outcome of the first state's sender for a call
  abbrev first_outcome : Call → Outcome
  first_outcome k = call_outcome s (ask_of (sender s work)) work.draw.words k

  abbrev second_outcome : Call → Outcome
  second_outcome k = call_outcome t (ask_of (sender t work)) work.draw.words k

  -- what is told of a view is the same
  pub views_told : (at place : ℕ) (target : Target) (asked : Shown) → work.call ≡ call.View target asked
      → told (answer_of at (work_outcome s work)) ≡ told (answer_of place (work_outcome t work))
  views_told at place target asked is =
      ap (λ k. told (answer_of at (first_outcome k))) is
      ∙ views_agree s.world t.world (ask_of (sender s work)) sound.kept.world other.kept.world sees.collections one_seen at place target asked
      ∙ ap (λ who. told (answer_of place (view_outcome t.world (ask_of who) target asked))) sees.caller
      ∙ ap (λ k. told (answer_of place (second_outcome k))) (sym is)

  -- and of a list, where the same records are on it
  pub lists_told : (at place : ℕ) (name : List ℕ) (query : ListQuery) → work.call ≡ call.List name query
      → listed s.world (ask_of (sender s work)) name ≡ listed t.world (ask_of (sender t work)) name
      → told (answer_of at (work_outcome s work)) ≡ told (answer_of place (work_outcome t work))
  lists_told at place name query is lists =
      let one_listed = lists ∙ ap (λ who. listed t.world (ask_of who) name) (sym sees.caller) in
      told_anywhere at place (work_outcome s work)
      ∙ ap (λ o. told (answer_of place o))
      (ap first_outcome is
      ∙ lists_agree s.world t.world (ask_of (sender s work)) sound.kept.world other.kept.world sees.collections one_seen name query one_listed
      ∙ ap (λ who. list_outcome t.world (ask_of who) name query) sees.caller
      ∙ ap second_outcome (sym is))

-- ---- answers

-- a work that views or lists enters nothing
module _ (s : MachineState) (work : Work) where
  abbrev asks : Ask
  asks = bare_ask (sender s work) work

  pub view_is_reading : (target : Target) (asked : Shown) → work.call ≡ call.View target asked → IsReading (work_outcome s work)
  view_is_reading target asked is =
      subst (λ k. IsReading (call_outcome s asks work.draw.words k)) (sym is) (view_reads s.world asks target asked)

  pub list_is_reading : (name : List ℕ) (query : ListQuery) → work.call ≡ call.List name query → IsReading (work_outcome s work)
  list_is_reading name query is =
      subst (λ k. IsReading (call_outcome s asks work.draw.words k)) (sym is) (list_reads s.world asks name query)

pub views_tell : ViewsTellWhatIsSeen
views_tell opening other history others work target asked sound sound_other is sees =
    ap told (answer_is opening history work (view_is_reading (after opening history) work target asked is))
    ∙ views_told (after opening history) (after other others) work sound sound_other sees (length history) (length others) target asked is
    ∙ sym (ap told (answer_is other others work (view_is_reading (after other others) work target asked is)))

pub lists_tell : ListsTellWhatIsSeen
lists_tell opening other history others work name query sound sound_other is same =
    ap told (answer_is opening history work (list_is_reading (after opening history) work name query is))
    ∙ lists_told (after opening history) (after other others) work sound sound_other same.sees (length history) (length others) name query is same.lists
    ∙ sym (ap told (answer_is other others work (list_is_reading (after other others) work name query is)))
