-- Pages of records that rise by id.
use Rattle.std.proofs.Common.{◌≡◌, ℕ, zero, suc, eqb-true, ◌-◌, ◌*◌, ◌≤◌, arith, true, cond, List, [], ◌∷◌, drop, length, map, take, refl, sym, ap, ap₂, ◌∙◌, Bor, Option, All}
use Rattle.std.specs.Prelude.{◌==◌}
use Rattle.std.proofs.lemmas.List.Elements.{All-head}
use Rattle.std.proofs.lemmas.List.Kept.{AllPairs-filter}
use Rattle.pocket_types.specs.Order.{IsBefore, Rises}
use Rattle.pocket_types.specs.declared.names.Name.{Name}
use Rattle.pocket_types.specs.declared.records.Collection.{Collection}
use Rattle.pocket_types.specs.declared.records.Rec.{Rec}
use Rattle.pocket_types.specs.declared.requests.Ask.{Ask}
use Rattle.pocket_types.specs.declared.resolved.Resolved.{Resolved}
use Rattle.pocket_types.specs.declared.world.World.{World}
use Rattle.pocket_types.proofs.OrderLemmas.{is_before-back, rises_first, rises_rest}
use Rattle.pocket_tables.specs.Worlds.{IsTabled, id_of, recs_at}
use Rattle.pocket_tables.proofs.WorldLemmas.{ordered_from}
use Rattle.pocket_types.specs.declared.ids.Id.{Id}
use Rattle.pocket_api.specs.declared.call.ListQuery.{ListQuery}
use Rattle.std.proofs.lemmas.List.{drop-map, length-map, take-map}
use Rattle.pocket_read.specs.Pages.{cut, is_wanted, matched, page_in, page_number, page_size, page_with}
use Rattle.pocket_read.specs.Sorting.{in_order, insert_by, key_of, sorted_ids, stands_before}
use Rattle.pocket_read.specs.declared.terms.SortTerm.{SortTerm}

-- the records of a list rise by id
pub matched_rise : (w : World) (ask : Ask) (c : Collection) (found : Option Resolved) → IsTabled w → Rises id_of (matched w ask c found)
matched_rise w ask c found t = AllPairs-filter (λ x y. IsBefore (id_of x) (id_of y)) (is_wanted w ask c found) (recs_at w c.name) ((ordered_from w t).ids c.name)

-- without terms records that rise stand in order
stays : (w : World) (ask : Ask) (home : Name) (r : Rec) (recs : List Rec) → All (λ s. IsBefore r.id s.id) recs
    → insert_by (stands_before []) (key_of w ask home [] r) (map (key_of w ask home []) recs) ≡ key_of w ask home [] r ∷ map (key_of w ask home []) recs
stays w ask home r [] h = refl
stays w ask home r (s ∷ recs) h =
    ap (λ b. cond b (key_of w ask home [] s ∷ insert_by (stands_before []) (key_of w ask home [] r) (map (key_of w ask home []) recs)) (key_of w ask home [] r ∷ map (key_of w ask home []) (s ∷ recs)))
    (is_before-back r.id s.id (All-head (λ s. IsBefore r.id s.id) s recs h))

in_order_by_id : (w : World) (ask : Ask) (home : Name) (recs : List Rec) → Rises id_of recs
    → in_order (stands_before []) (map (key_of w ask home []) recs) ≡ map (key_of w ask home []) recs
in_order_by_id w ask home [] h = refl
in_order_by_id w ask home (r ∷ recs) h =
    ap (insert_by (stands_before []) (key_of w ask home [] r)) (in_order_by_id w ask home recs (rises_rest id_of r recs h)) ∙ stays w ask home r recs (rises_first id_of r recs h)

ids_kept : (w : World) (ask : Ask) (home : Name) (recs : List Rec) → map (λ k. k.id) (map (key_of w ask home []) recs) ≡ map (λ r. r.id) recs
ids_kept w ask home [] = refl
ids_kept w ask home (r ∷ recs) = ap (λ l. r.id ∷ l) (ids_kept w ask home recs)

pub ids_now : (recs : List (Bor Rec)) → map (λ r. r.now.id) recs ≡ map (λ r. r.id) (map (λ r. r.now) recs)
ids_now [] = refl
ids_now (r ∷ recs) = ap (λ l. r.now.id ∷ l) (ids_now recs)

pub no_terms : (terms : List SortTerm) → (length terms == 0) ≡ true → terms ≡ []
no_terms [] e = refl
no_terms (t ∷ terms) e = let none : length (t ∷ terms) ≡ 0 = eqb-true (length (t ∷ terms)) 0 e in absurd (omega arith)

-- the ids of a list without terms
pub unsorted_ids : (w : World) (ask : Ask) (home : Name) (terms : List SortTerm) (recs : List (Bor Rec)) → terms ≡ [] → Rises id_of (map (λ r. r.now) recs)
    → map (λ r. r.now.id) recs ≡ sorted_ids w ask home terms (map (λ r. r.now) recs)
unsorted_ids w ask home terms recs none h =
    ids_now recs ∙ sym (ap (λ t. sorted_ids w ask home t (map (λ r. r.now) recs)) none
    ∙ ap (map (λ k. k.id)) (in_order_by_id w ask home (map (λ r. r.now) recs) h) ∙ ids_kept w ask home (map (λ r. r.now) recs))

pub keys_now : (w : World) (ask : Ask) (home : Name) (terms : List SortTerm) (recs : List (Bor Rec))
    → map (λ r. key_of w ask home terms r.now) recs ≡ map (key_of w ask home terms) (map (λ r. r.now) recs)
keys_now w ask home terms [] = refl
keys_now w ask home terms (r ∷ recs) = ap (λ l. key_of w ask home terms r.now ∷ l) (keys_now w ask home terms recs)

-- the page of a list, item by item
pub page_of_ids : {X : Type 0} (f : X → Id) (query : ListQuery) (xs part : List X) (ids : List Id) (count : ℕ) → part ≡ cut query xs → ids ≡ map f part → count ≡ length xs
    → page_with ids count query ≡ page_in (map f xs) query
page_of_ids f query xs part ids count p is n =
    let size = page_size query.per_page in
    let before = (page_number query.page - 1) * size in
    ap₂ (λ l k. page_with l k query)
    (is ∙ ap (map f) p ∙ sym (ap (take size) (drop-map f before xs) ∙ take-map f size (drop before xs)))
    (n ∙ sym (length-map xs f))

pub taken_all : {X : Type 0} (n : ℕ) (xs : List X) → length xs ≤ n → take n xs ≡ xs
taken_all zero [] h = refl
taken_all zero (x ∷ xs) h = absurd (omega arith)
taken_all (suc n) [] h = refl
taken_all (suc n) (x ∷ xs) h = ap (λ l. x ∷ l) (taken_all n xs (omega arith))
