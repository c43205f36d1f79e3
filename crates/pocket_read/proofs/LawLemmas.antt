-- Pages one after another, and the order of kinds.
use Rattle.std.proofs.Common.{◌≡◌, ◌∙◌, ℕ, zero, suc, ◌+◌, ◌-◌, ◌*◌, ◌<◌, ◌≤◌, cond, eqb, Bool, true, false, List, [], ◌++◌, drop, length, take, Ok, Less, ap, ap₂, arith, eqb-true, refl, sym}
use Rattle.std.specs.Prelude.{min}
use Rattle.std.proofs.Math.Nat.{suc-mul}
use Rattle.std.proofs.lemmas.List.{drop-take, take-append-drop, take-take}
use Rattle.pocket_types.specs.Chains.{◌>>=◌, refuse}
use Rattle.pocket_types.specs.Within.{collections_of}
use Rattle.pocket_types.specs.declared.records.Collection.{Collection}
use Rattle.pocket_types.specs.declared.requests.Action.TheVariants as action
use Rattle.pocket_types.specs.declared.requests.Ask.{Ask}
use Rattle.pocket_types.specs.declared.values.Value.{Value}
use Rattle.pocket_types.specs.declared.values.Value.TheVariants as value
use Rattle.pocket_types.specs.declared.world.World.{World}
use Rattle.pocket_api.specs.declared.call.ListQuery.{ListQuery}
use Rattle.pocket_gate.specs.declared.verdict.Verdict.TheVariants.{Locked}
use Rattle.pocket_read.specs.Filtering.{client_of}
use Rattle.pocket_read.specs.Laws.{AsksFor, IsSize, ids_on, ids_upto, listed_ids, turned_to}
use Rattle.pocket_read.specs.Pages.{Search, cut, page_number, page_of, page_size, search_of, searched, unlocked_page}
use Rattle.pocket_read.specs.Sorting.{rank, value_cmp}
use Rattle.pocket_read.specs.declared.faults.ReadFault.TheVariants.{Denied}
use Rattle.pocket_read.proofs.PageLemmas.{taken_all}

-- ---- sizes

pub size_is : (asked : ℕ) → IsSize asked
size_is asked = by (eqb asked 0) refl
  where
    by : (none : Bool) → eqb asked 0 ≡ none → IsSize asked
    by true e =
        let size : page_size asked ≡ 30 = ap (λ b. cond b 30 (min asked 500)) e in
        let zero_is = eqb-true asked 0 e in
        record { some = omega (arith, size); most = omega (arith, size); given = λ least most. absurd (omega (arith, zero_is, least)) }
    by false e =
        let size : page_size asked ≡ min asked 500 = ap (λ b. cond b 30 (min asked 500)) e in
        let least : 1 ≤ asked = grind (arith, e) in
        record { some = omega (arith, size, least); most = omega (arith, size); given = λ _ most. omega (arith, size, most) }

-- ---- pages

module _ {X : Type 0} (xs : List X) where
  -- a front of a list and what stands behind it
  front_more : (n m : ℕ) → take n xs ++ take m (drop n xs) ≡ take (n + m) xs
  front_more n m =
      ap₂ (λ front behind. front ++ behind) (sym (take-take n (n + m) xs (omega arith))) (sym (drop-take n m xs)) ∙ take-append-drop n (take (n + m) xs)

module _ (w : World) (ask : Ask) (c : Collection) (query : ListQuery) (search : Search) (asks : AsksFor w ask c query search) where
  -- a page of the list
  page_is : (n : ℕ) → page_of w ask c (turned_to n query) ≡ Ok (searched w ask c (turned_to n query) search)
  unfolding page_of search_of
  page_is n =
      ap (λ b. refuse b (Denied (Locked c.name action.List)) >>= (λ _. unlocked_page w ask c (turned_to n query))) asks.unlocked
      ∙ ap (λ found. found >>= (λ s. Ok (searched w ask c (turned_to n query) s))) asks.resolved

  abbrev ids : List (List ℕ)
  ids = listed_ids w ask c search

  abbrev size : ℕ
  size = page_size query.per_page

  ids_are : (n : ℕ) → ids_on (page_of w ask c (turned_to n query)) ≡ cut (turned_to n query) ids
  ids_are n = ap ids_on (page_is n)

  -- the pages so far are the front of the list
  pages_front : (n : ℕ) → ids_upto w ask c query n ≡ take (n * size) ids
  pages_front zero = let none : 0 ≡ 0 * size = omega arith in ap (λ k. take k ids) none
  pages_front (suc n) =
      ap₂ (λ front page. front ++ page) (pages_front n) (ids_are (suc n))
      ∙ ap (λ k. take (n * size) ids ++ take size (drop (k * size) ids)) (before n)
      ∙ front_more ids (n * size) size
      ∙ ap (λ k. take k ids) (sym (suc-mul n size))
    where
      before : (k : ℕ) → page_number (suc k) - 1 ≡ k
      before k = omega arith

  pub pages_are_the_list : (n : ℕ) → length ids ≤ n * size → ids_upto w ask c query n ≡ ids
  pages_are_the_list n room = pages_front n ∙ taken_all (n * size) ids room

-- ---- values

pub kinds_are_ranked : (a b : Value) → rank a < rank b → value_cmp a b ≡ Less
kinds_are_ranked value.Nothing value.Nothing less = absurd (omega (arith, less))
kinds_are_ranked value.Nothing (value.Flag b) less = refl
kinds_are_ranked value.Nothing (value.Num b) less = refl
kinds_are_ranked value.Nothing (value.Text b) less = refl
kinds_are_ranked (value.Flag a) value.Nothing less = absurd (omega (arith, less))
kinds_are_ranked (value.Flag a) (value.Flag b) less = absurd (omega (arith, less))
kinds_are_ranked (value.Flag a) (value.Num b) less = refl
kinds_are_ranked (value.Flag a) (value.Text b) less = refl
kinds_are_ranked (value.Num a) value.Nothing less = absurd (omega (arith, less))
kinds_are_ranked (value.Num a) (value.Flag b) less = absurd (omega (arith, less))
kinds_are_ranked (value.Num a) (value.Num b) less = absurd (omega (arith, less))
kinds_are_ranked (value.Num a) (value.Text b) less = refl
kinds_are_ranked (value.Text a) _ less = absurd (text_last a _ less)
  where
    text_last : (t : List ℕ) (b : Value) → 3 < rank b → ⊥
    text_last t value.Nothing less = omega (arith, less)
    text_last t (value.Flag b) less = omega (arith, less)
    text_last t (value.Num b) less = omega (arith, less)
    text_last t (value.Text b) less = omega (arith, less)
