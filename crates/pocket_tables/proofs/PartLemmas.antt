-- The parts of a world make the world.
use Rattle.std.proofs.Common.{◌≡◌, ℕ, List, [], ◌∷◌, ◌++◌, refl, sym, ◌∙◌, ap, subst, map, All, Option, Some, None}
use Rattle.std.specs.Option.{option_map, option_map_or}
use Rattle.std.proofs.lemmas.List.Elements.{All-head, All-tail, All-cons, All-nil}
use Rattle.std.specs.List.{AllZip}
use Rattle.std.specs.Str.{bytes_eq}
use Rattle.std.specs.Prelude.{cond, Bool, true, false}
use Rattle.pocket_types.specs.Order.{IsBefore, Rises}
use Rattle.pocket_types.proofs.OrderLemmas.{rises_first, rises_rest, rises_cons, rises_nil}
use Rattle.pocket_types.specs.declared.records.Collection.{Collection}
use Rattle.pocket_types.specs.declared.world.Shelf.{Shelf}
use Rattle.pocket_types.specs.declared.world.World.{World}
use Rattle.pocket_tables.specs.declared.drawers.Drawer.{Drawer}
use Rattle.pocket_tables.specs.Inside.{AreTables, world_of}
use Rattle.pocket_tables.specs.Keyed.{find_key}
use Rattle.pocket_tables.specs.Parts.{ArePartsOf, IsDrawerOf}
use Rattle.pocket_tables.specs.Drawers.{recs_in, drawer_name}
use Rattle.pocket_types.specs.Within.{collections_of}
use Rattle.pocket_tables.specs.Worlds.{IsTabled, name_of, recs_at, shelf_name}
use Rattle.pocket_tables.proofs.WorldLemmas.{IsOrdered, collection_found, world_by, world_by-same, names_of_collections, world_by-itself, tabled_from}

-- a name has the same records on the shelves and in the drawers
pub recs_of_parts : (ss : List Shelf) (drawers : List Drawer) → AllZip IsDrawerOf ss drawers → (name : List ℕ)
    → recs_in drawers name ≡ option_map_or (λ s. s.recs) (find_key shelf_name name ss) []
recs_of_parts [] [] h name = refl
recs_of_parts [] (r ∷ drawers) h name = absurd h
recs_of_parts (s ∷ ss) [] h name = absurd h
recs_of_parts (s ∷ ss) (r ∷ drawers) h name =
    ap (λ n. option_map_or (λ r. r.recs.items) (cond (bytes_eq n name) (Some r) (find_key drawer_name name drawers)) []) h.0.name ∙ by (bytes_eq s.collection.name name) (recs_of_parts ss drawers h.1 name)
  where
    by : (b : Bool) → recs_in drawers name ≡ option_map_or (λ s. s.recs) (find_key shelf_name name ss) []
        → option_map_or (λ r. r.recs.items) (cond b (Some r) (find_key drawer_name name drawers)) [] ≡ option_map_or (λ s. s.recs) (cond b (Some s) (find_key shelf_name name ss)) []
    by true e = h.0.recs
    by false e = e

names_hold : (P : List ℕ → Type 0) (ss : List Shelf) (drawers : List Drawer) → AllZip IsDrawerOf ss drawers → All (λ s. P (shelf_name s)) ss → All (λ r. P (drawer_name r)) drawers
names_hold P [] [] h all = All-nil (λ r. P (drawer_name r))
names_hold P [] (r ∷ drawers) h all = absurd h
names_hold P (s ∷ ss) [] h all = absurd h
names_hold P (s ∷ ss) (r ∷ drawers) h all =
    All-cons (λ r. P (drawer_name r)) r drawers (subst P (sym h.0.name) (All-head (λ s. P (shelf_name s)) s ss all))
    (names_hold P ss drawers h.1 (All-tail (λ s. P (shelf_name s)) s ss all))

drawer_names_rise : (ss : List Shelf) (drawers : List Drawer) → AllZip IsDrawerOf ss drawers → Rises shelf_name ss → Rises drawer_name drawers
drawer_names_rise [] [] h rising = rises_nil drawer_name
drawer_names_rise [] (r ∷ drawers) h rising = absurd h
drawer_names_rise (s ∷ ss) [] h rising = absurd h
drawer_names_rise (s ∷ ss) (r ∷ drawers) h rising =
    rises_cons drawer_name r drawers
    (subst (λ n. All (λ y. IsBefore n (drawer_name y)) drawers) (sym h.0.name) (names_hold (λ n. IsBefore s.collection.name n) ss drawers h.1 (rises_first shelf_name s ss rising)))
    (drawer_names_rise ss drawers h.1 (rises_rest shelf_name s ss rising))

module _ (cs : List Collection) (drawers : List Drawer) (w : World) (ordered : IsOrdered w) (parts : ArePartsOf cs drawers w.shelves) where
  same_recs : (name : List ℕ) → recs_in drawers name ≡ recs_at w name
  same_recs name = recs_of_parts w.shelves drawers parts.each name

  pub whole : world_of cs drawers ≡ w
  whole = ap (world_by (recs_in drawers)) parts.collections ∙ world_by-same (recs_in drawers) (recs_at w) same_recs (collections_of w) ∙ world_by-itself w ordered.names

  gone : (name : List ℕ) → find_key name_of name cs ≡ None → recs_in drawers name ≡ []
  gone name e = same_recs name ∙ by (find_key shelf_name name w.shelves) (sym (collection_found w.shelves name) ∙ sym (ap (find_key name_of name) parts.collections) ∙ e)
    where
      by : (o : Option Shelf) → option_map (λ s. s.collection) o ≡ None → option_map_or (λ s. s.recs) o [] ≡ []
      by None e = refl
      by (Some s) e = cc

  pub are_tables : AreTables cs drawers
  are_tables = record {
    tabled = subst IsTabled (sym whole) (tabled_from w ordered);
    rises = subst (λ l. Rises name_of l) (sym parts.collections) (names_of_collections w ordered.names);
    names = drawer_names_rise w.shelves drawers parts.each ordered.names;
    gone = gone;
  }

map_push : {X Y : Type 0} (f : X → Y) (xs : List X) (x : X) → map f (xs ++ x ∷ []) ≡ map f xs ++ f x ∷ []
map_push f [] x = refl
map_push f (y ∷ xs) x = ap (λ t. f y ∷ t) (map_push f xs x)

each_push : (ss : List Shelf) (drawers : List Drawer) (s : Shelf) (r : Drawer) → AllZip IsDrawerOf ss drawers → IsDrawerOf s r → AllZip IsDrawerOf (ss ++ s ∷ []) (drawers ++ r ∷ [])
each_push [] [] s r h is = (is, tt)
each_push [] (y ∷ drawers) s r h is = absurd h
each_push (x ∷ ss) [] s r h is = absurd h
each_push (x ∷ ss) (y ∷ drawers) s r h is = (h.0, each_push ss drawers s r h.1 is)

-- the parts of one shelf more
pub parts_next : (cs new_cs : List Collection) (drawers new_drawers : List Drawer) (ss : List Shelf) (s : Shelf) (r : Drawer) → ArePartsOf cs drawers ss
    → new_cs ≡ cs ++ s.collection ∷ [] → new_drawers ≡ drawers ++ r ∷ [] → IsDrawerOf s r → ArePartsOf new_cs new_drawers (ss ++ s ∷ [])
parts_next cs new_cs drawers new_drawers ss s r h e f is = record {
  collections = e ∙ ap (λ l. l ++ s.collection ∷ []) h.collections ∙ sym (map_push (λ s. s.collection) ss s);
  each = subst (λ l. AllZip IsDrawerOf (ss ++ s ∷ []) l) (sym f) (each_push ss drawers s r h.each is);
}
