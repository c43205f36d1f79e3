-- Records that are read one behind another.
use Rattle.std.proofs.Common.{◌≡◌, Bool, true, false, cond, List, [], ◌∷◌, ◌++◌, map, refl, sym, ap, ◌∙◌, subst, Bor, Option, Some, None, All}
use Rattle.std.specs.Prelude.{filter, find}
use Rattle.std.proofs.lemmas.List.Elements.{All-head, All-tail}
use Rattle.pocket_types.specs.Order.{IsBefore, Rises}
use Rattle.pocket_types.specs.declared.ids.Id.{Id}
use Rattle.pocket_types.specs.declared.records.Rec.{Rec}
use Rattle.pocket_types.proofs.OrderLemmas.{before_from, before_trans, is_before-back, is_before-itself, is_before_from, rises_first, rises_rest}
use Rattle.pocket_tables.specs.Reads.{first_above, is_above}
use Rattle.pocket_tables.specs.Worlds.{id_of}

pub all_kept : {X : Type 0} (p : X → Bool) (xs : List X) → All (λ x. p x ≡ true) xs → filter p xs ≡ xs
all_kept p [] h = refl
all_kept p (x ∷ xs) h =
    ap (λ b. cond b (x ∷ filter p xs) (filter p xs)) (All-head (λ x. p x ≡ true) x xs h) ∙ ap (λ l. x ∷ l) (all_kept p xs (All-tail (λ x. p x ≡ true) x xs h))

pub all_above : (recs : List Rec) → filter (is_above None) recs ≡ recs
all_above [] = refl
all_above (r ∷ recs) = ap (λ l. r ∷ l) (all_above recs)

-- each of these stands behind a record, and behind what the record stands behind
behind_it : (after : Option Id) (r s : Rec) → is_above after r ≡ true → IsBefore r.id s.id → is_above after s ≡ true
behind_it None r s e h = refl
behind_it (Some id) r s e h = is_before_from id s.id (before_trans id r.id s.id (before_from id r.id e) h)

every : {X : Type 0} (P Q : X → Type 0) → ((x : X) → P x → Q x) → (xs : List X) → All P xs → All Q xs
every P Q f xs h i d within = f _ (h i d within)

found_there : {X : Type 0} (P : X → Type 0) (p : X → Bool) (x : X) (xs : List X) → All P xs → Some x ≡ find p xs → P x
found_there P p x [] h e = cc
found_there P p x (y ∷ ys) h e = by (found_there P p x ys (All-tail P y ys h)) (p y) e
  where
    by : (Some x ≡ find p ys → P x) → (b : Bool) → Some x ≡ cond b (Some y) (find p ys) → P x
    by later true f = let same : x ≡ y = cc in subst P (sym same) (All-head P y ys h)
    by later false f = later f

-- the record that is read next, and those behind it
pub read_next : (after : Option Id) (r : Rec) (recs : List Rec) → Rises id_of recs → Some r ≡ first_above after recs
    → filter (is_above after) recs ≡ r ∷ filter (is_above (Some r.id)) recs
read_next after r [] h e = cc
read_next after r (s ∷ recs) h e = by (read_next after r recs (rises_rest id_of s recs h)) (is_above after s) refl e
  where
    later : All (λ t. IsBefore s.id t.id) recs
    later = rises_first id_of s recs h

    first : is_above after s ≡ true → s ∷ filter (is_above after) recs ≡ s ∷ filter (is_above (Some s.id)) (s ∷ recs)
    first f = ap (λ l. s ∷ l)
        (all_kept (is_above after) recs (every (λ t. IsBefore s.id t.id) (λ t. is_above after t ≡ true) (λ t. behind_it after s t f) recs later)
        ∙ sym (all_kept (is_above (Some s.id)) recs (every (λ t. IsBefore s.id t.id) (λ t. is_above (Some s.id) t ≡ true) (λ t. is_before_from s.id t.id) recs later))
        ∙ sym (ap (λ b. cond b (s ∷ filter (is_above (Some s.id)) recs) (filter (is_above (Some s.id)) recs)) (is_before-itself s.id)))

    by : (Some r ≡ first_above after recs → filter (is_above after) recs ≡ r ∷ filter (is_above (Some r.id)) recs) → (b : Bool) → is_above after s ≡ b
        → Some r ≡ cond b (Some s) (first_above after recs)
        → cond b (s ∷ filter (is_above after) recs) (filter (is_above after) recs) ≡ r ∷ filter (is_above (Some r.id)) (s ∷ recs)
    by rest true f g = let same : s ≡ r = cc in subst (λ t. s ∷ filter (is_above after) recs ≡ t ∷ filter (is_above (Some t.id)) (s ∷ recs)) same (first f)
    by rest false f g =
        rest g ∙ ap (λ l. r ∷ l) (sym (ap (λ b. cond b (s ∷ filter (is_above (Some r.id)) recs) (filter (is_above (Some r.id)) recs))
        (is_before-back s.id r.id (found_there (λ t. IsBefore s.id t.id) (is_above after) r recs later g))))

-- where nothing is read the end is reached
pub read_all : (after : Option Id) (recs : List Rec) → None ≡ first_above after recs → filter (is_above after) recs ≡ []
read_all after [] e = refl
read_all after (r ∷ recs) e = by (read_all after recs) (is_above after r) e
  where
    by : (None ≡ first_above after recs → filter (is_above after) recs ≡ []) → (b : Bool) → None ≡ cond b (Some r) (first_above after recs)
        → cond b (r ∷ filter (is_above after) recs) (filter (is_above after) recs) ≡ []
    by rest true f = cc
    by rest false f = rest f

now_more : (found : List (Bor Rec)) (x : Bor Rec) (rest : List Rec) → map (λ r. r.now) (found ++ x ∷ []) ++ rest ≡ map (λ r. r.now) found ++ x.now ∷ rest
now_more [] x rest = refl
now_more (y ∷ found) x rest = ap (λ l. y.now ∷ l) (now_more found x rest)

-- one record more is found, or isn't
pub found_more : (p : Rec → Bool) (found : List (Bor Rec)) (x : Bor Rec) (rest left all : List Rec) → true ≡ p x.now → left ≡ x.now ∷ rest
    → map (λ r. r.now) found ++ filter p left ≡ all → map (λ r. r.now) (found ++ x ∷ []) ++ filter p rest ≡ all
found_more p found x rest left all e l is =
    now_more found x (filter p rest)
    ∙ ap (λ b. map (λ r. r.now) found ++ cond b (x.now ∷ filter p rest) (filter p rest)) e
    ∙ ap (λ m. map (λ r. r.now) found ++ filter p m) (sym l) ∙ is

pub found_less : (p : Rec → Bool) (found : List (Bor Rec)) (x : Rec) (rest left all : List Rec) → false ≡ p x → left ≡ x ∷ rest
    → map (λ r. r.now) found ++ filter p left ≡ all → map (λ r. r.now) found ++ filter p rest ≡ all
found_less p found x rest left all e l is =
    ap (λ b. map (λ r. r.now) found ++ cond b (x ∷ filter p rest) (filter p rest)) e
    ∙ ap (λ m. map (λ r. r.now) found ++ filter p m) (sym l) ∙ is
