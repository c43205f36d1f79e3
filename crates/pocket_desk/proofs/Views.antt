-- The views of all seats, as one of them changes.
use Rattle.std.proofs.Common.{◌≡◌, ◌≢◌, ℕ, zero, suc, ◌+◌, ◌^◌, ◌<◌, ◌≤◌, ◌⊎◌, List, [], ◌∷◌, ◌++◌, length, get_or, set, sym, refl, ap, ◌∙◌, subst, ⊎_elim, inl, inr, arith, Option}
use mathlib.Core.Option.{Option as Place, some, some-injective, some-ne-none}
use mathlib.Core.Logic.{dite}
use native.Mathlib.Decide.{ℕ_discrete}
use lib.ListN.{get_elem?}
use lib.Seq.{set-get_or}
use Rattle.atomic_table.specs.Table.{State}
use Rattle.atomic_table.proofs.Lists.{at_set, set_again, set_else, at_snoc, at_longer}
use Rattle.pocket_desk.specs.declared.view.Entry.{Entry}
use Rattle.pocket_desk.specs.declared.view.Stage.{Stage}
use Rattle.pocket_desk.specs.declared.view.Stage.TheVariants.{Idle, Waiting, Serving, Closing, Joined}
use Rattle.pocket_desk.specs.declared.view.View.{View}
use Rattle.pocket_desk.specs.Lock.{IsLive, HasTicket, IsAtTurn, StageHolds, Knows, ViewHolds, AreApart, AllHold, AllApart, AllOut, Claims, SlotHolds, LockHolds, held}

at_snoc_below : {A : Type 0} (l : List A) (a b : A) (j : ℕ) → get_elem? (l ++ a ∷ []) j ≡ some b → ((j ≡ length l) × (a ≡ b)) ⊎ ((j < length l) × (get_elem? l j ≡ some b))
at_snoc_below [] a b zero e = inl (refl, some-injective a b e)
at_snoc_below [] a b (suc j) e = absurd (some-ne-none b (sym e))
at_snoc_below (x ∷ xs) a b zero e = inr (omega arith, e)
at_snoc_below (x ∷ xs) a b (suc j) e = ⊎_elim (λ t. let h = t.0 in inl (omega arith, t.1)) (λ t. let h = t.0 in inr (omega arith, t.1)) (at_snoc_below xs a b j e)

module _ {M W R : Type 0} where
  apart_sym : (v w : View M W R) → AreApart v w → AreApart w v
  apart_sym v w a = record { tickets = λ n x y. a.tickets n y x; numbers = λ x y n p q. a.numbers y x n q p }

  set_at : (vs : List (View M W R)) (id : ℕ) (v w : View M W R) → get_elem? vs id ≡ some v → get_elem? (set vs id w) id ≡ some w
  set_at [] id v w e = absurd (some-ne-none v (sym e))
  set_at (x ∷ xs) zero v w e = refl
  set_at (x ∷ xs) (suc id) v w e = set_at xs id v w e

  -- each view holds, after one changed or one came
  pub all_hold : (opened : M) (T S : ℕ) (log : List (Entry W)) (hs : List (Place (Option M))) (vs : List (View M W R)) (id : ℕ) (w : View M W R) → ViewHolds opened T S log hs w
      → ((j : ℕ) (u : View M W R) → j ≢ id → get_elem? vs j ≡ some u → ViewHolds opened T S log hs u) → AllHold opened T S log hs (set vs id w)
  all_hold opened T S log hs vs id w mine others j u e = ⊎_elim (λ (t : (j ≡ id) × (w ≡ u)). subst (λ (x : View M W R). ViewHolds opened T S log hs x) t.1 mine)
      (λ (t : (j ≢ id) × (get_elem? vs j ≡ some u)). others j u t.0 t.1) (at_set vs id j w u e)

  pub all_hold_snoc : (opened : M) (T S : ℕ) (log : List (Entry W)) (hs : List (Place (Option M))) (vs : List (View M W R)) (w : View M W R) → AllHold opened T S log hs vs → ViewHolds opened T S log hs w → AllHold opened T S log hs (vs ++ w ∷ [])
  all_hold_snoc opened T S log hs vs w old mine j u e = ⊎_elim (old j u) (λ (t : w ≡ u). subst (λ (x : View M W R). ViewHolds opened T S log hs x) t mine) (at_snoc vs w u j e)

  -- the same of any two
  pub all_apart : (vs : List (View M W R)) (id : ℕ) (w : View M W R) → AllApart vs → ((j : ℕ) (u : View M W R) → j ≢ id → get_elem? vs j ≡ some u → AreApart w u) → AllApart (set vs id w)
  all_apart vs id w old mine i j a b ne ei ej = ⊎_elim
      (λ (t : (i ≡ id) × (w ≡ a)). ⊎_elim (λ (u : (j ≡ id) × (w ≡ b)). absurd (ne (t.0 ∙ sym u.0)))
      (λ (u : (j ≢ id) × (get_elem? vs j ≡ some b)). subst (λ (x : View M W R). AreApart x b) t.1 (mine j b u.0 u.1)) (at_set vs id j w b ej))
      (λ (t : (i ≢ id) × (get_elem? vs i ≡ some a)). ⊎_elim (λ (u : (j ≡ id) × (w ≡ b)). subst (λ (x : View M W R). AreApart a x) u.1 (apart_sym w a (mine i a t.0 t.1)))
      (λ (u : (j ≢ id) × (get_elem? vs j ≡ some b)). old i j a b ne t.1 u.1) (at_set vs id j w b ej))
      (at_set vs id i w a ei)

  pub all_apart_snoc : (vs : List (View M W R)) (w : View M W R) → AllApart vs → ((j : ℕ) (u : View M W R) → get_elem? vs j ≡ some u → AreApart w u) → AllApart (vs ++ w ∷ [])
  all_apart_snoc vs w old mine i j a b ne ei ej = ⊎_elim
      (λ (t : (i ≡ length vs) × (w ≡ a)). ⊎_elim (λ (u : (j ≡ length vs) × (w ≡ b)). absurd (ne (t.0 ∙ sym u.0)))
      (λ (u : (j < length vs) × (get_elem? vs j ≡ some b)). subst (λ (x : View M W R). AreApart x b) t.1 (mine j b u.1)) (at_snoc_below vs w b j ej))
      (λ (t : (i < length vs) × (get_elem? vs i ≡ some a)). ⊎_elim (λ (u : (j ≡ length vs) × (w ≡ b)). subst (λ (x : View M W R). AreApart a x) u.1 (apart_sym w a (mine i a t.1)))
      (λ (u : (j < length vs) × (get_elem? vs j ≡ some b)). old i j a b ne t.1 u.1) (at_snoc_below vs w b j ej))
      (at_snoc_below vs w a i ei)

  -- the tickets that are out, after a seat changed: it keeps its own from S' on, and may have got the last
  pub all_out : (T T' S S' : ℕ) (vs : List (View M W R)) (id : ℕ) (v w : View M W R) → get_elem? vs id ≡ some v → S ≤ S' → AllOut T S vs
      → ((n : ℕ) → S' ≤ n → HasTicket v.stage n → HasTicket w.stage n) → ((n : ℕ) → S' ≤ n → n < T' → (n < T) ⊎ HasTicket w.stage n) → AllOut T' S' (set vs id w)
  all_out T T' S S' vs id v w at le old keeps gets n from below = ⊎_elim
      (λ (lt : n < T). let o = old n (omega arith) lt in let j = o.0 in let u = o.1 in dite (ℕ_discrete j id)
      (λ same. (id, w, set_at vs id v w at, keeps n from (subst (λ (z : View M W R). HasTicket z.stage n) (some-injective u v (sym o.2 ∙ (ap (get_elem? vs) same ∙ at))) o.3)))
      (λ ne. (j, u, set_else vs id j w ne ∙ o.2, o.3)))
      (λ (h : HasTicket w.stage n). (id, w, set_at vs id v w at, h))
      (gets n from below)

  pub all_out_snoc : (T S : ℕ) (vs : List (View M W R)) (w : View M W R) → AllOut T S vs → AllOut T S (vs ++ w ∷ [])
  all_out_snoc T S vs w old n from below = let o = old n from below in (o.0, o.1, at_longer vs (w ∷ []) o.0 o.1 o.2, o.3)

  -- more tickets are out
  pub stage_more : (T T' S : ℕ) (log : List (Entry W)) (hs : List (Place (Option M))) (u : View M W R) (st : Stage) → T ≤ T' → StageHolds T S log hs u st → StageHolds T' S log hs u st
  stage_more T T' S log hs u Idle le k = tt
  stage_more T T' S log hs u (Waiting t) le k = let b = k.1 in (k.0, omega arith)
  stage_more T T' S log hs u (Serving t) le k = let b = k.1 in (k.0, omega arith, k.2, k.3)
  stage_more T T' S log hs u (Closing t) le k = let b = k.1 in (k.0, omega arith, k.2)
  stage_more T T' S log hs u Joined le k = tt

  -- whatever another seat does in its turn
  stage_on : (T S S' : ℕ) (log log' : List (Entry W)) (hs hs' : List (Place (Option M))) (u : View M W R) (st : Stage) → S' ≤ S + 1 → (HasTicket st S → ⊥) → StageHolds T S log hs u st → StageHolds T S' log' hs' u st
  stage_on T S S' log log' hs hs' u Idle le free k = tt
  stage_on T S S' log log' hs hs' u (Waiting t) le free k = let a = k.0 in let ne : t ≢ S = free in (omega arith, k.1)
  stage_on T S S' log log' hs hs' u (Serving t) le free k = absurd (free k.0)
  stage_on T S S' log log' hs hs' u (Closing t) le free k = absurd (free k.0)
  stage_on T S S' log log' hs hs' u Joined le free k = tt

  pub ticket_below : (T S : ℕ) (log : List (Entry W)) (hs : List (Place (Option M))) (u : View M W R) (st : Stage) (n : ℕ) → StageHolds T S log hs u st → HasTicket st n → n < T
  ticket_below T S log hs u Idle n k h = absurd h
  ticket_below T S log hs u (Waiting t) n k h = subst (λ (x : ℕ). x < T) h k.1
  ticket_below T S log hs u (Serving t) n k h = subst (λ (x : ℕ). x < T) h k.1
  ticket_below T S log hs u (Closing t) n k h = subst (λ (x : ℕ). x < T) h k.1
  ticket_below T S log hs u Joined n k h = absurd h

  pub turn_has : (T S : ℕ) (log : List (Entry W)) (hs : List (Place (Option M))) (u : View M W R) (st : Stage) → StageHolds T S log hs u st → IsAtTurn st → HasTicket st S
  turn_has T S log hs u Idle k b = absurd b
  turn_has T S log hs u (Waiting t) k b = absurd b
  turn_has T S log hs u (Serving t) k b = k.0
  turn_has T S log hs u (Closing t) k b = k.0
  turn_has T S log hs u Joined k b = absurd b

module _ {M W R O : Type 0} (opening : M → O) (history : M → List W) (opened : M) where
  unfoldable pub built : (ws : List ℕ) (hs : List (Place (Option M))) (vs : List (View M W R)) (T S : ℕ) (log : List (Entry W)) → length ws ≡ 3 → get_or ws 0 0 ≡ T → get_or ws 1 0 ≡ S → get_or ws 2 0 ≡ length log
      → T < 2 ^ 64 → S ≤ T → AllOut T S vs → SlotHolds opening history opened log hs vs → AllHold opened T S log hs vs → AllApart vs → LockHolds opening history opened record { words = ws; homes = hs; views = vs }
  built ws hs vs T S log words eT eS eN left order out slot views apart = record {
    log = log;
    words = words;
    tickets_left = subst (λ (z : ℕ). z < 2 ^ 64) (sym eT) left;
    order = subst (λ (z : ℕ × ℕ). z.0 ≤ z.1) (λ i. (sym eS i, sym eT i)) order;
    length_is = eN;
    out = subst (λ (z : ℕ × ℕ). AllOut z.0 z.1 vs) (λ i. (sym eT i, sym eS i)) out;
    slot = slot;
    views = subst (λ (z : ℕ × ℕ). AllHold opened z.0 z.1 log hs vs) (λ i. (sym eT i, sym eS i)) views;
    apart = apart;
  }

  -- nothing changes
  pub unmoved : (s : State (Option M) (View M W R)) (i id : ℕ) (v : View M W R) → LockHolds opening history opened s → get_elem? s.views id ≡ some v → LockHolds opening history opened record { words = set s.words i (get_or s.words i 0); homes = s.homes; views = set s.views id v }
  unmoved s i id v r at = subst (λ (z : List ℕ × List (View M W R)). LockHolds opening history opened record { words = z.0; homes = s.homes; views = z.1 }) (λ k. (sym (set-get_or s.words i 0) k, sym (set_again s.views id v at) k)) r

  -- a seat without the slot changes
  pub slot_stays : (log : List (Entry W)) (hs : List (Place (Option M))) (vs : List (View M W R)) (id : ℕ) (v w : View M W R) → get_elem? vs id ≡ some v → (IsAtTurn v.stage → ⊥)
      → SlotHolds opening history opened log hs vs → SlotHolds opening history opened log hs (set vs id w)
  slot_stays log hs vs id v w at off (inl home) = inl home
  slot_stays log hs vs id v w at off (inr out) = let j = out.0 in let u = out.1 in inr (j, u, set_else vs id j w (λ e. off (subst (λ (x : View M W R). IsAtTurn x.stage) (some-injective u v (sym out.2 ∙ (ap (get_elem? vs) e ∙ at))) out.3)) ∙ out.2, out.3)

  -- the seat whose turn it is has the slot
  pub slot_taken : (log : List (Entry W)) (hs : List (Place (Option M))) (vs : List (View M W R)) (id : ℕ) (v w : View M W R) → get_elem? vs id ≡ some v → IsAtTurn w.stage → SlotHolds opening history opened log hs (set vs id w)
  slot_taken log hs vs id v w at turn = inr (id, w, set_at vs id v w at, turn)

  -- the seat whose ticket is served steps: words, slot and history change as it does, and every other view still holds
  pub served_steps : (s : State (Option M) (View M W R)) (id : ℕ) (v w : View M W R) (ws : List ℕ) (hs : List (Place (Option M))) (S' : ℕ) (log : List (Entry W)) (r : LockHolds opening history opened s)
      → get_elem? s.views id ≡ some v → HasTicket v.stage (get_or s.words 1 0) → IsLive v.stage
      → length ws ≡ 3 → get_or ws 0 0 ≡ get_or s.words 0 0 → get_or ws 1 0 ≡ S' → get_or ws 2 0 ≡ length log → get_or s.words 1 0 ≤ S' → S' ≤ get_or s.words 1 0 + 1 → S' ≤ get_or s.words 0 0
      → ((n : ℕ) → HasTicket w.stage n → HasTicket v.stage n) → ((n : ℕ) → S' ≤ n → HasTicket v.stage n → HasTicket w.stage n)
      → ((n : ℕ) → Claims (held w) w.pending n → Claims (held v) v.pending n)
      → StageHolds (get_or s.words 0 0) S' log hs w w.stage → Knows opened log w
      → ((j : ℕ) (u : View M W R) → j ≢ id → get_elem? s.views j ≡ some u → IsLive u.stage → Knows opened r.log u → Knows opened log u)
      → SlotHolds opening history opened log hs (set s.views id w) → LockHolds opening history opened record { words = ws; homes = hs; views = set s.views id w }
  served_steps s id v w ws hs S' log r at mine live words eT eS eN from le below tickets keeps claims stage knows others slot =
      let T : ℕ = get_or s.words 0 0 in let S : ℕ = get_or s.words 1 0 in
      built ws hs (set s.views id w) T S' log words eT eS eN r.tickets_left below (all_out T T S S' s.views id v w at from r.out keeps (λ n _ lt. inl lt)) slot
      (all_hold opened T S' log hs s.views id w record { stage = stage; knows = λ _. knows }
      (λ j u ne e. let q = r.views j u e in record { stage = stage_on T S S' r.log log s.homes hs u u.stage le (λ h. (r.apart j id u v ne e at).tickets S h mine) q.stage; knows = λ l. others j u ne e l (q.knows l) }))
      (all_apart s.views id w r.apart (λ j u ne e. let a = r.apart id j v u (λ same. ne (sym same)) at e in record { tickets = λ n h h'. a.tickets n (tickets n h) h'; numbers = λ _ l n p q. a.numbers live l n (claims n p) q }))

  -- an idle seat changes
  pub idle_changes : (s : State (Option M) (View M W R)) (id : ℕ) (v w : View M W R) (r : LockHolds opening history opened s) → get_elem? s.views id ≡ some v → v.stage ≡ Idle → w.stage ≡ Idle
      → Knows opened r.log w → ((j : ℕ) (u : View M W R) → j ≢ id → get_elem? s.views j ≡ some u → IsLive u.stage → (n : ℕ) → Claims (held w) w.pending n → Claims (held u) u.pending n → ⊥)
      → LockHolds opening history opened record { words = s.words; homes = s.homes; views = set s.views id w }
  idle_changes s id v w r at idle still knows claims = let T : ℕ = get_or s.words 0 0 in let S : ℕ = get_or s.words 1 0 in
      built s.words s.homes (set s.views id w) T S r.log r.words refl refl r.length_is r.tickets_left r.order
      (all_out T T S S s.views id v w at (omega arith) r.out (λ n _ h. absurd (subst (λ st. HasTicket st n) idle h)) (λ n _ lt. inl lt))
      (slot_stays r.log s.homes s.views id v w at (λ b. subst IsAtTurn idle b) r.slot)
      (all_hold opened T S r.log s.homes s.views id w record { stage = subst (StageHolds T S r.log s.homes w) (sym still) tt; knows = λ _. knows } (λ j u ne e. r.views j u e))
      (all_apart s.views id w r.apart (λ j u ne e. record { tickets = λ n h h'. subst (λ st. HasTicket st n) still h; numbers = λ _ l n p q. claims j u ne e l n p q }))

  -- an idle seat is joined to another
  pub idle_leaves : (s : State (Option M) (View M W R)) (id : ℕ) (v w : View M W R) (r : LockHolds opening history opened s) → get_elem? s.views id ≡ some v → v.stage ≡ Idle → w.stage ≡ Joined
      → (r' : LockHolds opening history opened record { words = s.words; homes = s.homes; views = set s.views id w }) × (r'.log ≡ r.log)
  unfolding built
  idle_leaves s id v w r at idle gone = let T : ℕ = get_or s.words 0 0 in let S : ℕ = get_or s.words 1 0 in (
    built s.words s.homes (set s.views id w) T S r.log r.words refl refl r.length_is r.tickets_left r.order
        (all_out T T S S s.views id v w at (omega arith) r.out (λ n _ h. absurd (subst (λ st. HasTicket st n) idle h)) (λ n _ lt. inl lt))
        (slot_stays r.log s.homes s.views id v w at (λ b. subst IsAtTurn idle b) r.slot)
        (all_hold opened T S r.log s.homes s.views id w record { stage = subst (StageHolds T S r.log s.homes w) (sym gone) tt; knows = λ l. absurd (subst IsLive gone l) } (λ j u ne e. r.views j u e))
        (all_apart s.views id w r.apart (λ j u ne e. record { tickets = λ n h h'. subst (λ st. HasTicket st n) gone h; numbers = λ l _ n p q. absurd (subst IsLive gone l) })),
    refl,
  )
