-- Each step at the lock keeps its rule, and tells its seat what it says.
use Rattle.std.proofs.Common.{◌≡◌, ◌≢◌, ℕ, zero, suc, ◌+◌, ◌%◌, ◌^◌, ◌<◌, eqb, List, [], ◌∷◌, ◌++◌, length, get_or, set, sym, refl, ap, ◌∙◌, subst, ⊎_elim, inl, inr, arith, length-set, get_or-set_other, get_or-set_same, eq-eqb, ne_eqb, append-nil, length-append, Option, Some, None}
use Rattle.std.specs.Prelude.{unwrap_or}
use mathlib.Core.Option.{none, some, some-injective, some-ne-none}
use mathlib.Core.Logic.{dite}
use native.Mathlib.Decide.{ℕ_discrete}
use lib.ListN.{get_elem?}
use lib.Seq.{set-get_or}
use prog.Atomic.{either}
use Rattle.std.proofs.Math.Nat.{mod-eq_of_lt}
use Rattle.std.proofs.lemmas.Bool.{false≢true}
use Rattle.std.proofs.lemmas.List.{set_comm}
use Rattle.atomic_table.specs.Table.{State, step, Act, keeps, takes, gives, Valid, carried_after, stepped, Allows, Splits, Joins, opening as opening_of}
use Rattle.atomic_table.proofs.Lists.{at_set, set_else, at_longer}
use Rattle.pocket_desk.specs.declared.view.Entry.{Entry}
use Rattle.pocket_desk.specs.declared.view.Call.{Call}
use Rattle.pocket_desk.specs.declared.view.Stage.{Stage}
use Rattle.pocket_desk.specs.declared.view.Stage.TheVariants.{Idle, Waiting, Serving, Closing}
use Rattle.pocket_desk.specs.declared.view.Pending.{Pending}
use Rattle.pocket_desk.specs.declared.view.Pending.TheVariants.{Nothing, Other}
use Rattle.pocket_desk.specs.declared.view.View.{View}
use Rattle.pocket_desk.specs.History.{Holds, Owns, entry, numbers, works}
use Rattle.pocket_desk.specs.View.{all_joined, at_stage, seeing, entered, answered, merged_view, first_view, left_view, right_view, joined_view, spent_view}
use Rattle.pocket_desk.specs.Lock.{IsLive, HasTicket, IsAtTurn, StageHolds, Knows, ViewHolds, AreApart, AllHold, PendingHolds, Claims, SlotHolds, LockHolds, held}
use Rattle.pocket_desk.specs.Steps.{Mine, TakesTicket, GetsTurn, LooksAtServing, AddsToLength, AddsToServing, Closes, Merges}
use Rattle.pocket_desk.proofs.Histories.{begins_longer, begins_merged, claims_own, claims_self, claims_left, claims_merged, holds_alone, holds_both, holds_either, holds_own, holds_right, late_merged, left_owns, none_fewer, none_more, right_owns, pending_more, exactly_more, exactly_grows, exactly_left, exactly_right, holds_left}
use Rattle.pocket_desk.proofs.Views.{all_hold, all_hold_snoc, all_apart, all_apart_snoc, all_out, all_out_snoc, stage_more, ticket_below, turn_has, built, unmoved, slot_stays, slot_taken, served_steps, idle_changes, idle_leaves}

abbrev ticket_of : Stage → ℕ
ticket_of (Waiting t) = t
ticket_of (Serving t) = t
ticket_of _ = 0

module _ {M W R O : Type 0} (opening : M → O) (history : M → List W) (opened : M) where
  -- the next ticket is the seat's
  taken : (s : State (Option M) (View M W R)) (id : ℕ) (v : View M W R) → LockHolds opening history opened s → get_elem? s.views id ≡ some v → v.stage ≡ Idle → get_or s.words 0 0 + 1 < 2 ^ 64
      → LockHolds opening history opened record { words = set s.words 0 (get_or s.words 0 0 + 1); homes = s.homes; views = set s.views id (at_stage v (Waiting (get_or s.words 0 0))) }
  taken s id v r at idle room =
      let T : ℕ = get_or s.words 0 0 in let S : ℕ = get_or s.words 1 0 in let w : View M W R = at_stage v (Waiting T) in let words = r.words in let order = r.order in
      let live : IsLive v.stage = subst IsLive (sym idle) tt in
      let k = (r.views id v at).knows live in
      built opening history opened (set s.words 0 (T + 1)) s.homes (set s.views id w) (T + 1) S r.log
      (length-set s.words 0 (T + 1) ∙ words) (get_or-set_same s.words 0 (T + 1) 0 (omega arith)) (get_or-set_other s.words 0 1 (T + 1) 0 (λ e. omega arith)) (get_or-set_other s.words 0 2 (T + 1) 0 (λ e. omega arith) ∙ r.length_is)
      room (omega arith) (all_out T (T + 1) S S s.views id v w at (omega arith) r.out (λ n _ h. absurd (subst (λ st. HasTicket st n) idle h))
      (λ n _ lt. dite (ℕ_discrete T n) (λ (same : T ≡ n). inr same) (λ (ne : T ≢ n). inl (omega arith))))
      (slot_stays opening history opened r.log s.homes s.views id v w at (λ b. subst IsAtTurn idle b) r.slot)
      (all_hold opened (T + 1) S r.log s.homes s.views id w record { stage = (order, omega arith); knows = λ _. record { opened_is = k.opened_is; number_below = k.number_below; seen = k.seen; late = k.late; own = k.own; apart = k.apart; pending = k.pending } }
      (λ j u ne e. let q = r.views j u e in record { stage = stage_more T (T + 1) S r.log s.homes u u.stage (omega arith) q.stage; knows = q.knows }))
      (all_apart s.views id w r.apart (λ j u ne e. let a = r.apart id j v u (λ same. ne (sym same)) at e in record {
        tickets = λ n h h'. let b = ticket_below T S r.log s.homes u u.stage n (r.views j u e).stage h' in let is : T ≡ n = h in omega arith;
        numbers = λ _ l n p q. a.numbers live l n p q;
      }))

  pub takes_ticket : (slots id : ℕ) (m : Mine M W R) (old : ℕ) → m.0.stage ≡ Idle → old + 1 < 2 ^ 64
      → Allows (LockHolds opening history opened) slots id m 0 (λ n. either (eqb n old) (old + 1) n) (TakesTicket (step slots 0 old (old + 1) none) m)
  takes_ticket slots id m old idle room s r _ at _ = let x : ℕ = get_or s.words 0 0 in dite (ℕ_discrete x old)
      (λ hit. (
        at_stage m.0 (Waiting x),
        keeps,
        tt,
        subst (λ (z : ℕ). LockHolds opening history opened record { words = set s.words 0 z; homes = s.homes; views = set s.views id (at_stage m.0 (Waiting x)) }) (ap (λ (z : ℕ). z + 1) hit ∙ sym (ap (λ b. either b (old + 1) x) (eq-eqb x old hit)))
            (taken s id m.0 r at idle (subst (λ (z : ℕ). z + 1 < 2 ^ 64) (sym hit) room)),
        ((λ _. ap (λ (z : ℕ). (at_stage m.0 (Waiting z), m.1)) hit), (λ miss. absurd (miss hit))),
      ))
      (λ miss. (
        m.0,
        keeps,
        tt,
        subst (λ (z : ℕ). LockHolds opening history opened record { words = set s.words 0 z; homes = s.homes; views = set s.views id m.0 }) (sym (ap (λ b. either b (old + 1) x) (ne_eqb x old miss))) (unmoved opening history opened s 0 id m.0 r at),
        ((λ hit. absurd (miss hit)), (λ _. refl)),
      ))

  same_opening : (v : View M W R) → v.opened ≡ Some opened → (o : M) → v.opened ≡ Some o → opening opened ≡ opening o
  same_opening v e o e' = ap (λ z. opening (unwrap_or z opened)) (sym e ∙ e')

  -- at its turn the seat takes the slot
  gets_turn : (slots id : ℕ) (m : Mine M W R) (s : State (Option M) (View M W R)) (r : LockHolds opening history opened s) → m.0.stage ≡ Waiting (get_or s.words 1 0) → get_elem? s.views id ≡ some m.0
      → SlotHolds opening history opened r.log s.homes s.views
      → (w : View M W R) × (a : Act (Option M)) × Valid s.homes m.1 a × LockHolds opening history opened (stepped s 1 (get_or s.words 1 0) id m.1 w a) × GetsTurn opening history (get_or s.words 1 0) m (w, carried_after m.1 a)
  gets_turn slots id m s r waits at (inl home) =
      let machine = home.0 in let T : ℕ = get_or s.words 0 0 in let S : ℕ = get_or s.words 1 0 in
      let live : IsLive m.0.stage = subst IsLive (sym waits) tt in
      let mine : HasTicket m.0.stage S = subst (λ st. HasTicket st S) (sym waits) refl in
      let q = r.views id m.0 at in let k = q.knows live in
      let below = subst (StageHolds T S r.log s.homes m.0) waits q.stage in
      let w : View M W R = seeing m.0 r.log (Serving S) in
      let out : set s.homes 0 none ≡ none ∷ [] = ap (λ hs. set hs 0 none) home.1 in
      let order = r.order in (
        w,
        takes 0 (Some machine),
        ap (λ hs. get_elem? hs 0) home.1,
        subst (λ ws. LockHolds opening history opened record { words = ws; homes = set s.homes 0 none; views = set s.views id w }) (sym (set-get_or s.words 1 0))
            (served_steps opening history opened s id m.0 w s.words (set s.homes 0 none) S r.log r at mine live r.words refl refl r.length_is (omega arith) (omega arith) order
            (λ n h. subst (λ st. HasTicket st n) (sym waits) h) (λ n _ h. subst (λ st. HasTicket st n) waits h) (λ n c. c) (refl, below.1, refl, out)
            record { opened_is = k.opened_is; number_below = k.number_below; seen = ([], sym (append-nil r.log)); late = tt; own = k.own; apart = k.apart; pending = k.pending }
            (λ j u ne e l ku. ku) (slot_taken opening history opened r.log (set s.homes 0 none) s.views id m.0 w at tt)),
        record { log = r.log; machine = machine; now = refl; opening_is = λ o e. home.2 ∙ same_opening m.0 k.opened_is o e; history_is = home.3; seen = k.seen; late = k.late; own = k.own },
      )
  gets_turn slots id m s r waits at (inr out) = let j = out.0 in let u = out.1 in let S : ℕ = get_or s.words 1 0 in
      dite (ℕ_discrete j id)
      (λ same. absurd (subst IsAtTurn waits (subst (λ (z : View M W R). IsAtTurn z.stage) (some-injective u m.0 (sym out.2 ∙ (ap (get_elem? s.views) same ∙ at))) out.3)))
      (λ ne. absurd ((r.apart j id u m.0 ne out.2 at).tickets S (turn_has (get_or s.words 0 0) S r.log s.homes u u.stage (r.views j u out.2).stage out.3) (subst (λ st. HasTicket st S) (sym waits) refl)))

  pub looks_at_serving : (slots id : ℕ) (m : Mine M W R) (t : ℕ) → m.0.stage ≡ Waiting t
      → Allows (LockHolds opening history opened) slots id m 1 (λ n. n) (LooksAtServing opening history (step slots 1 0 0 none) m)
  looks_at_serving slots id m t waits s r _ at _ = let x : ℕ = get_or s.words 1 0 in dite (ℕ_discrete x t)
      (λ hit. let n = gets_turn slots id m s r (waits ∙ ap Waiting (sym hit)) at r.slot in (
        n.0,
        n.1,
        n.2,
        n.3,
        λ t' waits'. let same : t ≡ t' = ap ticket_of (sym waits ∙ waits') in ((λ found. subst (λ (z : ℕ). GetsTurn opening history z m (n.0, carried_after m.1 n.1)) found n.4), (λ miss. absurd (miss (hit ∙ same)))),
      ))
      (λ miss. (
        m.0,
        keeps,
        tt,
        unmoved opening history opened s 1 id m.0 r at,
        λ t' waits'. let same : t ≡ t' = ap ticket_of (sym waits ∙ waits') in ((λ found. absurd (miss (found ∙ sym same))), (λ _. refl)),
      ))

  -- the entry is fixed
  pub adds_to_length : (slots id : ℕ) (m : Mine M W R) (t : ℕ) (said : Option W) (work : W) → m.0.stage ≡ Serving t → m.0.pending ≡ Nothing → said ≡ Some work → length m.0.seen + 1 < 2 ^ 64
      → Allows (LockHolds opening history opened) slots id m 2 (λ n. (n + 1) % 2 ^ 64) (AddsToLength said (step slots 2 1 0 none) m)
  adds_to_length slots id m t said work serves alone says room s r _ here _ =
      let v : View M W R = m.0 in let w : View M W R = entered v work in
      let T : ℕ = get_or s.words 0 0 in let S : ℕ = get_or s.words 1 0 in let N : ℕ = get_or s.words 2 0 in
      let live : IsLive v.stage = subst IsLive (sym serves) tt in
      let q = r.views id v here in let k = q.knows live in
      let stage = subst (StageHolds T S r.log s.homes v) serves q.stage in
      let mine : HasTicket v.stage S = subst (λ st. HasTicket st S) (sym serves) stage.0 in
      let count : N ≡ length v.seen = r.length_is ∙ ap length (sym stage.2) in
      let next : (N + 1) % 2 ^ 64 ≡ N + 1 = mod-eq_of_lt (subst (λ (z : ℕ). z + 1 < 2 ^ 64) (sym count) room) in
      let e : List (Entry W) = entry v.number work ∷ [] in
      let long : length (r.log ++ e) ≡ length r.log + 1 = length-append r.log e in
      let words = r.words in let order = r.order in (
        w,
        keeps,
        tt,
        served_steps opening history opened s id v w (set s.words 2 ((N + 1) % 2 ^ 64)) s.homes S (r.log ++ e) r here mine live
            (length-set s.words 2 ((N + 1) % 2 ^ 64) ∙ words) (get_or-set_other s.words 2 0 ((N + 1) % 2 ^ 64) 0 (λ e. omega arith)) (get_or-set_other s.words 2 1 ((N + 1) % 2 ^ 64) 0 (λ e. omega arith))
            (get_or-set_same s.words 2 ((N + 1) % 2 ^ 64) 0 (omega arith) ∙ (next ∙ (ap (λ (z : ℕ). z + 1) r.length_is ∙ sym long))) (omega arith) (omega arith) order
            (λ n h. h) (λ n _ h. h) (λ n c. c) (subst (StageHolds T S (r.log ++ e) s.homes w) (sym serves) (stage.0, stage.1, ap (λ l. l ++ e) stage.2, stage.3))
            record {
              opened_is = k.opened_is;
              number_below = k.number_below;
              seen = ([], sym (append-nil (v.seen ++ e) ∙ ap (λ l. l ++ e) stage.2));
              late = tt;
              own = exactly_grows r.log v.number v.stride work v.mine k.own;
              apart = k.apart;
              pending = subst (PendingHolds (r.log ++ e) (held v)) (sym alone) tt;
            }
            (λ j u ne at_j l ku. let a = r.apart id j v u (λ same. ne (sym same)) here at_j in
            let free : Claims (held u) u.pending v.number → ⊥ = λ c. a.numbers live l v.number (claims_self v.number v.stride v.joined v.pending k.number_below) c in record {
              opened_is = ku.opened_is;
              number_below = ku.number_below;
              seen = begins_longer r.log u.seen e ku.seen;
              late = none_more (held u) ku.seen.0 v.number work (λ h. free (claims_own (held u) v.number u.pending h)) ku.late;
              own = exactly_more r.log u.number u.stride v.number work u.mine ku.number_below (λ o. free (claims_own (held u) v.number u.pending (holds_own u.number u.stride v.number u.joined o))) ku.own;
              apart = ku.apart;
              pending = pending_more r.log (held u) v.number work u.pending free ku.pending;
            })
            (slot_taken opening history opened (r.log ++ e) s.homes s.views id v w here (subst IsAtTurn (sym serves) tt)),
        λ work' says'. ap (λ z. (entered v (unwrap_or z work), m.1)) (sym says ∙ says'),
      )

  -- the machine goes home, and the turn is given on
  adds_to_serving_at : (slots id : ℕ) (v : View M W R) (machine : M) (t : ℕ) (said : Option (Call W R)) (call : Call W R) → v.stage ≡ Serving t → opening machine ≡ opening opened → history machine ≡ works v.seen → said ≡ Some call
      → Allows (LockHolds opening history opened) slots id (v, (0, Some machine) ∷ []) 1 (λ n. (n + 1) % 2 ^ 64) (AddsToServing said (step slots 1 1 0 none) (v, (0, Some machine) ∷ []))
  adds_to_serving_at slots id v machine t said call serves opening_is history_is says s r _ here _ =
      let w : View M W R = answered v call in
      let T : ℕ = get_or s.words 0 0 in let S : ℕ = get_or s.words 1 0 in
      let live : IsLive v.stage = subst IsLive (sym serves) tt in
      let q = r.views id v here in let k = q.knows live in
      let stage = subst (StageHolds T S r.log s.homes v) serves q.stage in
      let mine : HasTicket v.stage S = subst (λ st. HasTicket st S) (sym serves) stage.0 in
      let below : S < T = subst (λ (z : ℕ). z < T) stage.0 stage.1 in
      let top = r.tickets_left in let words = r.words in
      let next : (S + 1) % 2 ^ 64 ≡ S + 1 = mod-eq_of_lt (omega arith) in
      let home : set s.homes 0 (some (Some machine)) ≡ some (Some machine) ∷ [] = ap (λ hs. set hs 0 (some (Some machine))) stage.3 in (
        w,
        gives,
        tt,
        served_steps opening history opened s id v w (set s.words 1 ((S + 1) % 2 ^ 64)) (set s.homes 0 (some (Some machine))) (S + 1) r.log r here mine live
            (length-set s.words 1 ((S + 1) % 2 ^ 64) ∙ words) (get_or-set_other s.words 1 0 ((S + 1) % 2 ^ 64) 0 (λ e. omega arith)) (get_or-set_same s.words 1 ((S + 1) % 2 ^ 64) 0 (omega arith) ∙ next)
            (get_or-set_other s.words 1 2 ((S + 1) % 2 ^ 64) 0 (λ e. omega arith) ∙ r.length_is) (omega arith) (omega arith) (omega arith)
            (λ n h. absurd h) (λ n from h. let is : t ≡ n = subst (λ st. HasTicket st n) serves h in let at : t ≡ S = stage.0 in absurd (omega arith)) (λ n c. c) tt
            record { opened_is = k.opened_is; number_below = k.number_below; seen = k.seen; late = k.late; own = k.own; apart = k.apart; pending = k.pending }
            (λ j u ne at_j l ku. ku)
            (inl (machine, home, opening_is, history_is ∙ ap works stage.2)),
        λ call' says'. ap (λ z. (answered v (unwrap_or z call), [])) (sym says ∙ says'),
      )

  pub adds_to_serving : (slots id : ℕ) (m : Mine M W R) (machine : M) (t : ℕ) (said : Option (Call W R)) (call : Call W R) → m.1 ≡ (0, Some machine) ∷ [] → m.0.stage ≡ Serving t
      → (opening machine ≡ opening opened) × (history machine ≡ works m.0.seen) → said ≡ Some call
      → Allows (LockHolds opening history opened) slots id m 1 (λ n. (n + 1) % 2 ^ 64) (AddsToServing said (step slots 1 1 0 none) m)
  adds_to_serving slots id m machine t said call slot serves fresh says =
      subst (λ (c : List (ℕ × Option M)). Allows (LockHolds opening history opened) slots id (m.0, c) 1 (λ n. (n + 1) % 2 ^ 64) (AddsToServing said (step slots 1 1 0 none) (m.0, c))) (sym slot)
      (adds_to_serving_at slots id m.0 machine t said call serves fresh.0 fresh.1 says)

  -- the slot goes home with no machine, for good
  closes_at : (slots id : ℕ) (v : View M W R) (t : ℕ) → v.stage ≡ Serving t → Allows (LockHolds opening history opened) slots id (v, (0, None) ∷ []) 1 (λ n. n) (Closes (step slots 1 0 0 none) (v, (0, None) ∷ []))
  closes_at slots id v t serves s r _ here _ =
      let w : View M W R = at_stage v (Closing t) in
      let T : ℕ = get_or s.words 0 0 in let S : ℕ = get_or s.words 1 0 in
      let live : IsLive v.stage = subst IsLive (sym serves) tt in
      let q = r.views id v here in let k = q.knows live in
      let stage = subst (StageHolds T S r.log s.homes v) serves q.stage in
      let mine : HasTicket v.stage S = subst (λ st. HasTicket st S) (sym serves) stage.0 in
      let order = r.order in
      let home : set s.homes 0 (some None) ≡ some None ∷ [] = ap (λ hs. set hs 0 (some None)) stage.3 in (
        w,
        gives,
        tt,
        subst (λ ws. LockHolds opening history opened record { words = ws; homes = set s.homes 0 (some None); views = set s.views id w }) (sym (set-get_or s.words 1 0))
            (served_steps opening history opened s id v w s.words (set s.homes 0 (some None)) S r.log r here mine live r.words refl refl r.length_is (omega arith) (omega arith) order
            (λ n h. subst (λ st. HasTicket st n) (sym serves) h) (λ n _ h. subst (λ st. HasTicket st n) serves h) (λ n c. c) (stage.0, stage.1, home)
            record { opened_is = k.opened_is; number_below = k.number_below; seen = k.seen; late = k.late; own = k.own; apart = k.apart; pending = k.pending }
            (λ j u ne at_j l ku. ku)
            (slot_taken opening history opened r.log (set s.homes 0 (some None)) s.views id v w here tt)),
        λ t' serves'. ap (λ z. (at_stage v (Closing (ticket_of z)), [])) (sym serves ∙ serves'),
      )

  pub closes : (slots id : ℕ) (m : Mine M W R) (t : ℕ) → m.1 ≡ (0, None) ∷ [] → m.0.stage ≡ Serving t → Allows (LockHolds opening history opened) slots id m 1 (λ n. n) (Closes (step slots 1 0 0 none) m)
  closes slots id m t slot serves =
      subst (λ (c : List (ℕ × Option M)). Allows (LockHolds opening history opened) slots id (m.0, c) 1 (λ n. n) (Closes (step slots 1 0 0 none) (m.0, c))) (sym slot) (closes_at slots id m.0 t serves)

  -- the numbers that a seat merges are none of its own
  merged_apart : (log : List (Entry W)) (v : View M W R) → ((n : ℕ) → Owns v.number v.stride n → Holds v.joined n → ⊥) → (p : Pending W) → PendingHolds log (held v) p
      → (n : ℕ) → Owns v.number v.stride n → Holds (all_joined v.joined p) n → ⊥
  merged_apart log v apart Nothing k n o h = apart n o h
  merged_apart log v apart (Other other theirs seen mine) k n o h =
      ⊎_elim (apart n o) (k.apart n (holds_own v.number v.stride n v.joined o)) (holds_both v.joined theirs n h)

  -- an idle seat merges what it was joined with
  pub merges : (slots id : ℕ) (m : Mine M W R) → m.0.stage ≡ Idle → Allows (LockHolds opening history opened) slots id m 1 (λ n. n) (Merges (step slots 1 0 0 none) m)
  merges slots id m idle s r _ at _ = let v : View M W R = m.0 in let live : IsLive v.stage = subst IsLive (sym idle) tt in let k = (r.views id v at).knows live in (
    merged_view v,
    keeps,
    tt,
    subst (λ ws. LockHolds opening history opened record { words = ws; homes = s.homes; views = set s.views id (merged_view v) }) (sym (set-get_or s.words 1 0))
        (idle_changes opening history opened s id v (merged_view v) r at idle idle
        record {
          opened_is = k.opened_is;
          number_below = k.number_below;
          seen = begins_merged r.log v.seen (held v) v.pending k.seen k.pending;
          late = late_merged r.log v.seen (numbers v.number v.stride) v.joined v.pending k.seen k.pending k.late;
          own = k.own;
          apart = merged_apart r.log v k.apart v.pending k.pending;
          pending = tt;
        }
        (λ j u ne e l n p q. (r.apart id j v u (λ same. ne (sym same)) at e).numbers live l n (claims_merged v.number v.stride n v.joined v.pending p) q)),
    (refl, (r.log, k.seen.0, k.seen.1, k.late, k.own, k.pending)),
  )

  -- an idle seat is cut in two
  pub splits : (id : ℕ) (v : View M W R) → v.stage ≡ Idle → v.pending ≡ Nothing → Splits (LockHolds opening history opened) id v (left_view v) (right_view v)
  splits id v idle alone s r at =
      let T : ℕ = get_or s.words 0 0 in let S : ℕ = get_or s.words 1 0 in
      let live : IsLive v.stage = subst IsLive (sym idle) tt in let k = (r.views id v at).knows live in let below = k.number_below in
      let a : View M W R = left_view v in let b : View M W R = right_view v in
      let left : Knows opened r.log a = record {
        opened_is = k.opened_is;
        number_below = omega arith;
        seen = k.seen;
        late = none_fewer (held v) (held a) k.seen.0 (λ n h. holds_left v.number v.stride n v.joined below h) k.late;
        own = exactly_left r.log v.number v.stride v.mine below k.own;
        apart = λ n o h. k.apart n (left_owns v.number v.stride n below o) h;
        pending = subst (PendingHolds r.log (held a)) (sym alone) tt;
      } in
      let right : Knows opened r.log b = record {
        opened_is = k.opened_is;
        number_below = omega arith;
        seen = k.seen;
        late = none_fewer (held v) (held b) k.seen.0 (λ n h. holds_right v.number v.stride n v.joined below h) k.late;
        own = exactly_right r.log v.number v.stride v.mine below k.own;
        apart = λ n o h. false≢true h;
        pending = tt;
      } in
      let c = idle_changes opening history opened s id v a r at idle idle left (λ j u ne e l n p q. (r.apart id j v u (λ same. ne (sym same)) at e).numbers live l n (claims_left v.number v.stride n v.joined v.pending below p) q) in
      built opening history opened s.words s.homes (set s.views id a ++ b ∷ []) T S r.log r.words refl refl r.length_is r.tickets_left r.order
      (all_out_snoc T S (set s.views id a) b c.out)
      (⊎_elim (λ h. inl h) (λ o. inr (o.0, o.1, at_longer (set s.views id a) (b ∷ []) o.0 o.1 o.2, o.3)) (slot_stays opening history opened r.log s.homes s.views id v a at (λ h. subst IsAtTurn idle h) r.slot))
      (all_hold_snoc opened T S r.log s.homes (set s.views id a) b
      (all_hold opened T S r.log s.homes s.views id a record { stage = subst (StageHolds T S r.log s.homes a) (sym idle) tt; knows = λ _. left } (λ j u ne e. r.views j u e))
      record { stage = subst (StageHolds T S r.log s.homes b) (sym idle) tt; knows = λ _. right })
      (all_apart_snoc (set s.views id a) b c.apart (λ j u e. ⊎_elim
      (λ (t : (j ≡ id) × (a ≡ u)). subst (λ (z : View M W R). AreApart b z) t.1 record {
        tickets = λ n h h'. subst (λ st. HasTicket st n) idle h;
        numbers = λ _ _ n p q. let p' : n % (v.stride + v.stride) ≡ v.number + v.stride = holds_alone (v.number + v.stride) (v.stride + v.stride) n p in
            let q' : Holds (held a) n = subst (λ g. Claims (held a) g n) alone q in
            ⊎_elim (λ (o : n % (v.stride + v.stride) ≡ v.number). absurd (omega arith)) (λ h. k.apart n (right_owns v.number v.stride n below p') h)
            (holds_either v.number (v.stride + v.stride) n v.joined q');
      })
      (λ (t : (j ≢ id) × (get_elem? s.views j ≡ some u)). record {
        tickets = λ n h h'. subst (λ st. HasTicket st n) idle h;
        numbers = λ _ l n p q. (r.apart id j v u (λ same. t.0 (sym same)) at t.1).numbers live l n (claims_own (held v) n v.pending (holds_right v.number v.stride n v.joined below p)) q;
      })
      (at_set s.views id j a u e)))

  -- two idle seats become one
  pub joins : (id : ℕ) (v : View M W R) (other : ℕ) (w : View M W R) → v.stage ≡ Idle → w.stage ≡ Idle → Joins (LockHolds opening history opened) id v other w (joined_view v w) spent_view
  joins id v other w idle idle' s r at apart there =
      let b : View M W R = joined_view v w in let z : View M W R = spent_view in
      let there' : get_elem? s.views other ≡ some w = sym (set_else s.views id other b apart) ∙ there in
      let live : IsLive v.stage = subst IsLive (sym idle) tt in let live' : IsLive w.stage = subst IsLive (sym idle') tt in
      let k = (r.views id v at).knows live in let k' = (r.views other w there').knows live' in
      let back : id ≢ other = λ e. apart (sym e) in
      let gone = idle_leaves opening history opened s other w z r there' idle' refl in
      let at' : get_elem? (set s.views other z) id ≡ some v = set_else s.views other id z back ∙ at in
      subst (λ vs. LockHolds opening history opened record { words = s.words; homes = s.homes; views = vs }) (set_comm s.views other id z b apart)
      (idle_changes opening history opened record { words = s.words; homes = s.homes; views = set s.views other z } id v b gone.0 at' idle idle
      (subst (λ log. Knows opened log b) (sym gone.1) record {
        opened_is = k.opened_is;
        number_below = k.number_below;
        seen = k.seen;
        late = k.late;
        own = k.own;
        apart = k.apart;
        pending = record {
          begins = k'.seen;
          late = k'.late;
          own = k'.own.0;
          number_held = holds_own w.number w.stride w.number w.joined (mod-eq_of_lt k'.number_below);
          apart = λ n h h'. (r.apart id other v w back at there').numbers live live' n (claims_own (held v) n v.pending h) (claims_own (held w) n w.pending h');
        };
      })
      (λ j u ne e l n p q. ⊎_elim
      (λ (t : (j ≡ other) × (z ≡ u)). subst (λ (x : View M W R). IsLive x.stage) (sym t.1) l)
      (λ (t : (j ≢ other) × (get_elem? s.views j ≡ some u)). ⊎_elim
      (λ o. (r.apart id j v u (λ same. ne (sym same)) at t.1).numbers live l n (claims_own (held v) n v.pending o) q)
      (λ o. (r.apart other j w u (λ same. t.0 (sym same)) there' t.1).numbers live' l n (claims_own (held w) n w.pending o) q)
      p)
      (at_set s.views other j z u e)))

  -- the lock as it is at the start
  pub starts : history opened ≡ [] → LockHolds {R = R} opening history opened (opening_of (0 ∷ 0 ∷ 0 ∷ []) (Some opened ∷ []) (first_view opened))
  starts empty = record {
    log = [];
    words = refl;
    tickets_left = omega arith;
    order = omega arith;
    length_is = refl;
    out = λ n from below. absurd (omega arith);
    slot = inl (opened, refl, refl, empty);
    views = one;
    apart = λ i j v w ne ei ej. absurd (only i j v w ne ei ej);
  }
    where
      one : AllHold {W = W} {R = R} opened 0 0 [] (some (Some opened) ∷ []) (first_view opened ∷ [])
      one zero v e = subst (λ (x : View M W R). ViewHolds opened 0 0 [] (some (Some opened) ∷ []) x) (some-injective _ _ e)
          record { stage = tt; knows = λ _. record { opened_is = refl; number_below = omega arith; seen = ([], refl); late = tt; own = (refl, λ n o ne. refl); apart = λ n o h. false≢true h; pending = tt } }
      one (suc j) v e = absurd (some-ne-none v (sym e))

      only : (i j : ℕ) (v w : View M W R) → i ≢ j → get_elem? (first_view opened ∷ []) i ≡ some v → get_elem? (first_view opened ∷ []) j ≡ some w → ⊥
      only zero zero v w ne ei ej = ne refl
      only zero (suc j) v w ne ei ej = some-ne-none w (sym ej)
      only (suc i) j v w ne ei ej = some-ne-none v (sym ei)
