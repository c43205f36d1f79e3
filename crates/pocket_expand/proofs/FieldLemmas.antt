-- Fields and members of a record as its caller sees it.
use Rattle.std.proofs.Common.{◌≡◌, ◌≢◌, ℕ, zero, suc, ◌&&◌, Bool, true, false, cond, List, [], ◌∷◌, refl, sym, ap, ◌∙◌, true≢false, filter, map, not, Option, Some, None, All, arith}
use Rattle.std.specs.Prelude.{codes, find, zip}
use Rattle.std.specs.List.{list_any}
use Rattle.std.specs.Option.{option_map_or}
use Rattle.std.specs.Str.{bytes_eq}
use Rattle.std.proofs.lemmas.List.Elements.{All-head, All-tail}
use Rattle.pocket_types.specs.Callers.{is_admin}
use Rattle.pocket_types.specs.Kinds.{target_of}
use Rattle.pocket_types.specs.Maps.{map_jv, put}
use Rattle.pocket_types.specs.declared.ids.Id.{Id}
use Rattle.pocket_types.specs.declared.json.Jv.{Jv}
use Rattle.pocket_types.specs.declared.names.Name.{Name}
use Rattle.pocket_types.specs.declared.records.Cell.{Cell}
use Rattle.pocket_types.specs.declared.records.Collection.{Collection}
use Rattle.pocket_types.specs.declared.records.Field.{Field}
use Rattle.pocket_types.specs.declared.records.Rec.{Rec}
use Rattle.pocket_types.specs.declared.requests.Caller.{Caller}
use Rattle.pocket_ops.specs.Lengths.{AreApart, HasOwnNames}
use Rattle.pocket_ops.specs.Trees.{cell_jv, date_members, put_cells, shown_members, text_jv}
use Rattle.pocket_tables.specs.Reads.{holds_id}
use Rattle.pocket_tables.proofs.KeyLemmas.{key_false, key_same}
use Rattle.pocket_ops.specs.Fields.{field_at, ids_of}
use Rattle.pocket_meaning.specs.Related.{refers}
use Rattle.pocket_plan.specs.Cutting.{is_open, open_collection, open_rec}
use Rattle.pocket_plan.specs.Guarding.{open_field_at}
use Rattle.pocket_plan.proofs.Opening.{field_open}
use Rattle.pocket_gate.specs.Shown.{field_shown}
use Rattle.pocket_expand.specs.Expansion.{in_order, put_expand, rec_with, shown_collection, shown_rec}
use Rattle.pocket_expand.specs.Met.{points_shown}

-- ---- fields

-- a field of a record as its caller sees it
pub field_as_shown : (who : Caller) (c : Collection) (r : Rec) (name : Name) → field_at (shown_collection who c) (shown_rec who c r) name ≡ field_shown (is_admin who) c r name
field_as_shown who c r name = by (is_admin who)
  where
    by : (b : Bool) → field_at (cond b c (open_collection c)) (cond b r (open_rec c r)) name ≡ cond b (field_at c r name) (open_field_at c r name)
    by true = refl
    by false = field_open c r name

-- where a name is taken no later field has it
none_later : (name : Name) (fs : List Field) (cs : List Cell) → All (λ g. name ≢ g.name) fs → find (λ x. is_open x.0 && bytes_eq x.0.name name) (zip fs cs) ≡ None
none_later name [] cs h = refl
none_later name (f ∷ fs) [] h = refl
none_later name (f ∷ fs) (c ∷ cs) h =
    by (is_open f) (bytes_eq f.name name) (key_false f.name name (λ e. All-head (λ g. name ≢ g.name) f fs h (sym e)))
    (none_later name fs cs (All-tail (λ g. name ≢ g.name) f fs h))
  where
    by : (a b : Bool) → b ≡ false → find (λ x. is_open x.0 && bytes_eq x.0.name name) (zip fs cs) ≡ None
        → cond (a && b) (Some (f, c)) (find (λ x. is_open x.0 && bytes_eq x.0.name name) (zip fs cs)) ≡ None
    by true true e rest = absurd (true≢false e)
    by true false e rest = rest
    by false b e rest = rest

-- where names are apart, a field that is found among those that aren't hidden is the first of its name
open_is_first : (name : Name) (fs : List Field) (cs : List Cell) (x : Field × Cell) → AreApart fs
    → find (λ x. is_open x.0 && bytes_eq x.0.name name) (zip fs cs) ≡ Some x → find (λ x. bytes_eq x.0.name name) (zip fs cs) ≡ Some x
open_is_first name [] cs x h e = e
open_is_first name (f ∷ fs) [] x h e = e
open_is_first name (f ∷ fs) (c ∷ cs) x h e = by (is_open f) (bytes_eq f.name name) refl (open_is_first name fs cs x rest) e
  where
    rest : AreApart fs
    rest i j d before within = h (suc i) (suc j) d (omega arith) (omega arith)

    none : f.name ≡ name → find (λ x. is_open x.0 && bytes_eq x.0.name name) (zip fs cs) ≡ None
    none same = none_later name fs cs (λ k d within g. h zero (suc k) d (omega arith) (omega arith) (same ∙ g))

    by : (a b : Bool) → bytes_eq f.name name ≡ b
        → (find (λ x. is_open x.0 && bytes_eq x.0.name name) (zip fs cs) ≡ Some x → find (λ x. bytes_eq x.0.name name) (zip fs cs) ≡ Some x)
        → cond (a && b) (Some (f, c)) (find (λ x. is_open x.0 && bytes_eq x.0.name name) (zip fs cs)) ≡ Some x
        → cond b (Some (f, c)) (find (λ x. bytes_eq x.0.name name) (zip fs cs)) ≡ Some x
    by true true g later found = found
    by true false g later found = later found
    by false true g later found = let nothing = none (key_same f.name name g) in cc
    by false false g later found = later found

-- a record that is seen to refer to an id holds it
pub points_holds : (whole : Bool) (k : Collection) (field name : Name) (id : Id) (r : Rec) → HasOwnNames k
    → points_shown whole k field name id r ≡ true → holds_id k field id r ≡ true
points_holds whole k field name id r own h = by whole h
  where
    held : List Id → Bool
    held ids = list_any (λ i. bytes_eq i id) ids

    both : (a b : Bool) → (a && b) ≡ true → b ≡ true
    both true b e = e
    both false b e = absurd (true≢false (sym e))

    at : (o : Option (Field × Cell)) → option_map_or (refers name id) o false ≡ true → option_map_or (λ x. held (ids_of x.1)) o false ≡ true
    at None e = e
    at (Some (f, c)) e = both (option_map_or (λ target. bytes_eq target name) (target_of f.kind) false) (held (ids_of c)) e

    openly : (o : Option (Field × Cell)) → open_field_at k r field ≡ o → option_map_or (refers name id) o false ≡ true → option_map_or (λ x. held (ids_of x.1)) (field_at k r field) false ≡ true
    openly None e f = absurd (true≢false (sym f))
    openly (Some x) e f = ap (λ o. option_map_or (λ x. held (ids_of x.1)) o false) (open_is_first field k.fields r.cells x own.apart e) ∙ at (Some x) f

    by : (b : Bool) → points_shown b k field name id r ≡ true → holds_id k field id r ≡ true
    by true e = at (field_at k r field) e
    by false e = openly (open_field_at k r field) refl e

-- ---- members

-- the cells of fields that aren't hidden
cells_shown : (fs : List Field) (cs : List Cell) (ms : List (List ℕ × Jv))
    → put_cells true (filter is_open fs) (map (λ x. x.1) (filter (λ x. is_open x.0) (zip fs cs))) ms ≡ put_cells false fs cs ms
cells_shown [] cs ms = refl
cells_shown (f ∷ fs) [] ms = nothing (filter is_open (f ∷ fs))
  where
    nothing : (gs : List Field) → put_cells true gs [] ms ≡ ms
    nothing [] = refl
    nothing (g ∷ gs) = refl
cells_shown (f ∷ fs) (c ∷ cs) ms = by (cells_shown fs cs) f.hidden refl
  where
    gs : List Field
    gs = filter is_open fs

    ps : List (Field × Cell)
    ps = filter (λ x. is_open x.0) (zip fs cs)

    more : List (List ℕ × Jv)
    more = put f.name (cell_jv f.kind c) ms

    by : ((members : List (List ℕ × Jv)) → put_cells true gs (map (λ x. x.1) ps) members ≡ put_cells false fs cs members) → (b : Bool) → f.hidden ≡ b
        → put_cells true (cond (not f.hidden) (f ∷ gs) gs) (map (λ x. x.1) (cond (not f.hidden) ((f, c) ∷ ps) ps)) ms ≡ put_cells false fs cs (cond (f.hidden && not false) ms more)
    by rest true e = rw e (rest ms)
    by rest false e = rw e (rest more)

-- the members of a record as its caller sees it
pub members_as_shown : (who : Caller) (c : Collection) (r : Rec) → shown_members true (shown_collection who c) (shown_rec who c r) ≡ shown_members (is_admin who) c r
members_as_shown who c r = by (is_admin who)
  where
    by : (b : Bool) → shown_members true (cond b c (open_collection c)) (cond b r (open_rec c r)) ≡ shown_members b c r
    by true = refl
    by false = ap (λ ms. put (codes "id") (text_jv r.id) (put (codes "collectionName") (text_jv c.name) ms)) (cells_shown c.fields r.cells (date_members r))

-- a record as its caller sees it, with what was found under its names
pub rec_as_shown : (who : Caller) (c : Collection) (r : Rec) (found xs : List (List ℕ × Jv)) → found ≡ in_order xs
    → map_jv (put_expand found (shown_members (is_admin who) c r)) ≡ rec_with (shown_collection who c) (shown_rec who c r) xs
rec_as_shown who c r found xs is =
    ap (λ f. map_jv (put_expand f (shown_members (is_admin who) c r))) is ∙ ap (λ ms. map_jv (put_expand (in_order xs) ms)) (sym (members_as_shown who c r))
