-- Shelves put together from the last on, and the state of what was read.
use Rattle.std.proofs.Common.{◌≡◌, List, [], ◌∷◌, ◌++◌, length, reverse, refl, sym, ◌∙◌, ap, append_assoc, arith, ◌+◌, length-append}
use Rattle.std.proofs.lemmas.List.{reverse-append}
use Rattle.pocket_types.specs.declared.records.Collection.{Collection}
use Rattle.pocket_types.specs.declared.records.Rec.{Rec}
use Rattle.pocket_types.specs.declared.world.Shelf.{Shelf}
use Rattle.pocket_keeper.specs.declared.rows.KeptRow.{KeptRow}
use Rattle.pocket_keeper.specs.declared.tokens.Token.{Token}
use Rattle.pocket_store.specs.Drafts.{IsWhole, shelves_of}
use Rattle.pocket_store.specs.Stores.{AreReadable, IsStoreOf}

pub one_less : {X : Type 0} (xs ys : List X) (x : X) → xs ≡ ys ++ x ∷ [] → length xs ≡ length ys + 1
one_less xs ys x e = ap length e ∙ length-append ys (x ∷ [])

-- a collection and its records more
shelves_more : (cs : List Collection) (recs : List (List Rec)) (c : Collection) (rs : List Rec) → length recs ≡ length cs
    → shelves_of (cs ++ c ∷ []) (recs ++ rs ∷ []) ≡ shelves_of cs recs ++ record { collection = c; recs = rs } ∷ []
shelves_more [] [] c rs e = refl
shelves_more [] (r ∷ recs) c rs e = absurd (omega arith)
shelves_more (d ∷ cs) [] c rs e = absurd (omega arith)
shelves_more (d ∷ cs) (r ∷ recs) c rs e = ap (λ l. record { collection = d; recs = r } ∷ l) (shelves_more cs recs c rs (omega arith))

back_of : (cs cs2 : List Collection) (recs recs2 : List (List Rec)) (c : Collection) (rs : List Rec) → cs ≡ cs2 ++ c ∷ [] → recs ≡ recs2 ++ rs ∷ []
    → length recs2 ≡ length cs2 → shelves_of cs recs ≡ shelves_of cs2 recs2 ++ record { collection = c; recs = rs } ∷ []
back_of cs cs2 recs recs2 c rs p q e = rw (p, q) (shelves_more cs2 recs2 c rs e)

-- one shelf more is put together
pub shelves_step : (all : List Shelf) (cs cs2 : List Collection) (recs recs2 : List (List Rec)) (c : Collection) (rs : List Rec) (made made2 : List Shelf)
    → cs ≡ cs2 ++ c ∷ [] → recs ≡ recs2 ++ rs ∷ [] → length recs2 ≡ length cs2 → made2 ≡ made ++ record { collection = c; recs = rs } ∷ []
    → all ≡ shelves_of cs recs ++ reverse made → all ≡ shelves_of cs2 recs2 ++ reverse made2
shelves_step all cs cs2 recs recs2 c rs made made2 p q e m h =
    let s : Shelf = record { collection = c; recs = rs } in
    let r : reverse made2 ≡ s ∷ reverse made = ap reverse m ∙ reverse-append made (s ∷ []) in
    h ∙ ap (λ l. l ++ reverse made) (back_of cs cs2 recs recs2 c rs p q e) ∙ append_assoc (shelves_of cs2 recs2) (s ∷ []) (reverse made)
    ∙ ap (λ l. shelves_of cs2 recs2 ++ l) (sym r)

-- all shelves are put together
pub shelves_end : (all : List Shelf) (cs : List Collection) (recs : List (List Rec)) (made : List Shelf) → length cs ≡ 0
    → all ≡ shelves_of cs recs ++ reverse made → reverse made ≡ all
shelves_end all [] recs made z h = sym h
shelves_end all (c ∷ cs) recs made z h = absurd (omega arith)

-- the state of what was read
pub store_from : (rows : List KeptRow) (cs : List Collection) (recs : List (List Rec)) (ts : List Token) (shelves : List Shelf) → AreReadable rows cs
    → IsWhole rows cs recs ts → shelves ≡ shelves_of cs recs → IsStoreOf rows (record { world = record { shelves = shelves }; tokens = ts })
store_from rows cs recs ts shelves readable whole e = rw e (record {
  good = record { collections = cs; readable = readable; good = whole.judged.good; within = whole.judged.within };
  same = whole.same;
})
