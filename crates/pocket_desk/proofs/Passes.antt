-- What the calls of a desk do to passes.
use Rattle.std.proofs.Common.{◌≡◌, ◌⊎◌, ℕ, Bool, List, [], ◌∷◌, ◌++◌, take, length, sym, refl, ap, ◌∙◌, subst, ⊎_elim, inl, inr, arith, length-append, Option, Some, None}
use Rattle.std.specs.Prelude.{nat_lt, unwrap_or}
use Rattle.std.proofs.Math.Nat.{mod-eq_of_lt}
use Rattle.std.proofs.Math.Seq.{take-append_seam, take-length}
use Rattle.std.proofs.lemmas.List.{map-append}
use mathlib.Core.Option.{none, some, some-injective}
use lib.ListN.{get_elem?}
use Rattle.atomic_table.specs.Table.{step, rest, Final, Seen}
use Rattle.atomic_table.specs.Seated.{TableId}
use Rattle.pocket_desk.specs.declared.view.Entry.{Entry}
use Rattle.pocket_desk.specs.declared.view.Stage.TheVariants.{Waiting, Serving, Closing}
use Rattle.pocket_desk.specs.declared.view.View.{View}
use Rattle.pocket_desk.specs.History.{entry, works, works_held, is_among, BeginsWith, longer, HasExactly, HasNoneOf, Holds, IsInterleaved}
use Rattle.pocket_desk.specs.View.{at_stage, seeing, entered, answered, call_of, left_view, right_view, joined_view}
use Rattle.pocket_desk.specs.Lock.{LockHolds, OtherHolds, StageHolds, held}
use Rattle.pocket_desk.specs.Steps.{Mine, GetsTurn, Merges}
use Rattle.pocket_desk.specs.Turn.{LockSeat, IsServed}
use Rattle.pocket_desk.specs.Pass.{view_at, IsAtRest, IsCall, IsJoin, IsSplit}
use Rattle.pocket_desk.proofs.Histories.{all_works, begins_longer, exactly_grows, exactly_left, exactly_right, holds_first, holds_half, holds_own, holds_second, interleaved, left_works, longer_begins, right_works, works_by-between, works_held-own, works_so_far, works_where-between, begins_either}

abbrev content_or : {A : Type 0} → A → List (ℕ × A) → A
content_or d [] = d
content_or d (x ∷ xs) = x.1

module _ {M W R : Type 0} (fits : List W → W → R → Bool → Type 0) (enters : List W → W → R → Type 0) where
  abbrev pub Calls : TableId → TableId → Mine M W R → W → Mine M W R → R → Type 0
  Calls lock lock' m work m' reply = IsAtRest m' × IsCall fits enters (view_at lock m) work (view_at lock' m') reply

  -- the turn of a seat that had seen the history
  calls_at : (lock lock' : TableId) (m : Mine M W R) (log : List (Entry W)) (t : ℕ) (work : W) (m' : Mine M W R) (reply : R) → IsAtRest m → (began : BeginsWith log m.0.seen) → HasNoneOf (held m.0) began.0 → HasExactly m.0.number m.0.stride m.0.mine log
      → ((risen : Bool) × fits (works log) work reply risen)
      → ((enters (works log) work reply × (m' ≡ (answered (entered (seeing m.0 log (Serving t)) work) (call_of (length log) work reply), [])))
      ⊎ ((¬ enters (works log) work reply) × (m' ≡ (answered (seeing m.0 log (Serving t)) (call_of (length log) work reply), []))))
      → Calls lock lock' m work m' reply
  calls_at lock lock' m log t work m' reply rest began late own fit (inl did) =
      let e : List (Entry W) = entry m.0.number work ∷ [] in
      let back : take (length log) (log ++ e) ≡ log = take-append_seam log e in
      let long = length-append m.0.seen began.0 in let same = ap length began.1 in
      let so_far : works_held (held m.0) log ≡ works_held (held m.0) m.0.seen = works_so_far (held m.0) log m.0.seen began late in
      subst (λ x. Calls lock lock' m work x reply) (sym did.1) (
        record { empty_handed = refl; idle = refl; merged = rest.merged; number_below = rest.number_below; own = exactly_grows log m.0.number m.0.stride work m.0.mine own },
        record {
          position = length log;
          number = refl;
          held = refl;
          not_before = omega arith;
          seen_grows = begins_longer log m.0.seen e began;
          reply_fits = subst (λ l. (risen : Bool) × fits (works l) work reply risen) (sym back) fit;
          enters_once = inl (subst (λ l. enters (works l) work reply) (sym back) did.0, record { length_is = length-append log e; last = ap (λ l. l ++ e) (sym back); mine = refl; ours = works_held-own (held m.0) log m.0.number work (holds_own m.0.number m.0.stride m.0.number m.0.joined (mod-eq_of_lt rest.number_below)) ∙ ap (λ l. l ++ work ∷ []) so_far });
          calls = refl;
        },
      )
  calls_at lock lock' m log t work m' reply rest began late own fit (inr did) =
      let back : take (length log) log ≡ log = take-length log in
      let long = length-append m.0.seen began.0 in let same = ap length began.1 in
      let so_far : works_held (held m.0) log ≡ works_held (held m.0) m.0.seen = works_so_far (held m.0) log m.0.seen began late in
      subst (λ x. Calls lock lock' m work x reply) (sym did.1) (
        record { empty_handed = refl; idle = refl; merged = rest.merged; number_below = rest.number_below; own = own },
        record {
          position = length log;
          number = refl;
          held = refl;
          not_before = omega arith;
          seen_grows = began;
          reply_fits = subst (λ l. (risen : Bool) × fits (works l) work reply risen) (sym back) fit;
          enters_once = inr ((λ en. did.0 (subst (λ l. enters (works l) work reply) back en)), record { length_is = refl; mine = refl; ours = so_far });
          calls = refl;
        },
      )

  module _ {O : Type 0} (opening : M → O) (history : M → List W) where
    pub calls : (lock lock' : TableId) (m waiting : Mine M W R) (s s' : LockSeat M W R) (t : ℕ) (work : W) (reply : R) → IsAtRest m → waiting ≡ (at_stage m.0 (Waiting t), []) → GetsTurn opening history t waiting s.me → IsServed fits enters s work s' reply → Calls lock lock' m work s'.me reply
    calls lock lock' m waiting s s' t work reply rest waits turn did =
        let k : GetsTurn opening history t (at_stage m.0 (Waiting t), []) s.me = subst (λ x. GetsTurn opening history t x s.me) waits turn in
        let now : s.me.0 ≡ seeing m.0 k.log (Serving t) = ap (λ (x : Mine M W R). x.0) k.now in
        calls_at lock lock' m k.log t work s'.me reply rest k.seen k.late k.own (subst (λ (x : View M W R). (risen : Bool) × fits (works x.seen) work reply risen) now did.fit)
        (subst (λ (x : View M W R). (enters (works x.seen) work reply × (s'.me ≡ (answered (entered x work) (call_of (length x.seen) work reply), [])))
        ⊎ ((¬ enters (works x.seen) work reply) × (s'.me ≡ (answered x (call_of (length x.seen) work reply), [])))) now did.view)

module _ {M W R : Type 0} where
  pub left_rests : (m m' : Mine M W R) → IsAtRest m → m' ≡ (left_view m.0, m.1) → IsAtRest m'
  left_rests m m' r e = let below = r.number_below in subst IsAtRest (sym e)
      record { empty_handed = r.empty_handed; idle = r.idle; merged = r.merged; number_below = omega arith; own = exactly_left m.0.seen m.0.number m.0.stride m.0.mine below r.own }

  pub right_rests : (m m' : Mine M W R) → IsAtRest m → m' ≡ (right_view m.0, []) → IsAtRest m'
  right_rests m m' r e = let below = r.number_below in subst IsAtRest (sym e)
      record { empty_handed = refl; idle = r.idle; merged = refl; number_below = omega arith; own = exactly_right m.0.seen m.0.number m.0.stride m.0.mine below r.own }

  abbrev pub Joined : TableId → TableId → TableId → Mine M W R → Mine M W R → Mine M W R → Type 0
  Joined a b c m n m' = IsAtRest m' × IsJoin (view_at a m) (view_at b n) (view_at c m')

  pub joined : (a b c : TableId) (m n m1 m2 : Mine M W R) → IsAtRest m → IsAtRest n → m1 ≡ (joined_view m.0 n.0, m.1) → Merges (step 0 0 0 0 none) m1 0 m2 → Joined a b c m n m2
  joined a b c m n m1 m2 r q e merges =
      let k : Merges (step 0 0 0 0 none) (joined_view m.0 n.0, m.1) 0 m2 = subst (λ x. Merges (step 0 0 0 0 none) x 0 m2) e merges in
      let log = k.1.0 in let mine : BeginsWith log m.0.seen = (k.1.1, k.1.2) in let late = k.1.3 in let own = k.1.4 in
      let theirs : OtherHolds log (held m.0) n.0.number (held n.0) n.0.seen n.0.mine = k.1.5 in
      let now : List (Entry W) = longer m.0.seen n.0.seen in
      let both = longer_begins log m.0.seen n.0.seen mine theirs.begins in
      let all : BeginsWith log now = begins_either (nat_lt (length m.0.seen) (length n.0.seen)) log m.0.seen n.0.seen mine theirs.begins in
      let ours : works_held (held m.0) now ≡ works_held (held m.0) m.0.seen =
      works_where-between (λ x. is_among (held m.0) x.pass) log now m.0.seen (works_held (held m.0) m.0.seen) all both.0 (works_so_far (held m.0) log m.0.seen mine late) refl in
      let others : works_held (held n.0) now ≡ works_held (held n.0) n.0.seen =
      works_where-between (λ x. is_among (held n.0) x.pass) log now n.0.seen (works_held (held n.0) n.0.seen) all both.1 (works_so_far (held n.0) log n.0.seen theirs.begins theirs.late) refl in
      subst (Joined a b c m n) (sym k.0) (
        record {
          empty_handed = r.empty_handed;
          idle = r.idle;
          merged = refl;
          number_below = r.number_below;
          own = (
            works_by-between m.0.number log now m.0.seen m.0.mine all both.0 own.0 r.own.0,
            λ x o ne. works_by-between x log now m.0.seen [] all both.0 (own.1 x o ne) (r.own.1 x o ne),
          );
        },
        record {
          number = refl;
          held = λ x. ⊎_elim (holds_first (held m.0) (held n.0) x) (holds_second (held m.0) (held n.0) x);
          mine = refl;
          ours = subst (λ l. IsInterleaved l (works_held (held n.0) n.0.seen) (works_held (held m.0 ++ held n.0) now)) ours
              (subst (λ l. IsInterleaved (works_held (held m.0) now) l (works_held (held m.0 ++ held n.0) now)) others (interleaved (held m.0) (held n.0) now theirs.apart));
          calls = refl;
          seen = refl;
          begins = both;
          theirs = works_by-between n.0.number log now n.0.seen n.0.mine all both.1 theirs.own q.own.0;
        },
      )

  pub split_so : (a b c : TableId) (m one two : Mine M W R) → IsAtRest m → one ≡ (left_view m.0, m.1) → two ≡ (right_view m.0, []) → IsSplit (view_at a m) (view_at b one) (view_at c two)
  split_so a b c m one two r is is_two = let below = r.number_below in
      subst (λ x. IsSplit (view_at a m) (view_at b x) (view_at c two)) (sym is)
      (subst (λ x. IsSplit (view_at a m) (view_at b (left_view m.0, m.1)) (view_at c x)) (sym is_two) record {
        seen = (refl, refl);
        number = (refl, λ same. absurd (omega (arith, same)));
        held = λ x h. holds_half m.0.number m.0.stride x m.0.joined below h;
        mine = (refl, refl);
        ours = (left_works m.0.number m.0.stride m.0.joined m.0.mine m.0.seen below r.own, right_works m.0.number m.0.stride m.0.mine m.0.seen below r.own);
        calls = (refl, refl);
      })

module _ {M W R O : Type 0} (opening : M → O) (history : M → List W) (opened : M) where
  -- at the end the slot has no machine
  pub empty_at_end : (id : ℕ) (v : View M W R) (ws : List ℕ) (xs : List (Option M)) (left : Option M) (t : ℕ) → v.stage ≡ Closing t → Final (Seen (LockHolds opening history opened) id v) ws xs → get_elem? xs 0 ≡ some left → left ≡ None
  empty_at_end id v ws xs left t closing f at =
      let s = f.0 in let k = f.1.0 in
      let stage = subst (StageHolds _ _ k.log s.homes v) closing (k.views id v f.1.1).stage in
      let there : get_elem? s.homes 0 ≡ some (some None) = ap (λ hs. get_elem? hs 0) stage.2 in
      some-injective left None (sym at ∙ f.4 0 None there)

  -- the machine that a seat has at its turn is the desk's, and its history begins with all that was seen
  pub machine_at_turn : (waiting m : Mine M W R) (v : View M W R) (t : ℕ) (machine : M) → waiting ≡ (at_stage v (Waiting t), []) → GetsTurn opening history t waiting m → m.1 ≡ (0, Some machine) ∷ [] → v.opened ≡ Some opened
      → (opening machine ≡ opening opened) × BeginsWith (history machine) (works v.seen)
  machine_at_turn waiting m v t machine waits turn holds is =
      let k : GetsTurn opening history t (at_stage v (Waiting t), []) m = subst (λ x. GetsTurn opening history t x m) waits turn in
      let same : Some machine ≡ Some k.machine = ap (content_or (Some machine)) (sym holds ∙ ap (λ (x : Mine M W R). x.1) k.now) in
      let one : machine ≡ k.machine = ap (λ o. unwrap_or o machine) same in
      (ap opening one ∙ k.opening_is opened is, (works k.seen.0, ap history one ∙ (k.history_is ∙ (ap works k.seen.1 ∙ map-append (λ (e : Entry W). e.work) v.seen k.seen.0))))

  -- and where all numbers are held, it is no more than the works of these
  pub whole_at_turn : (waiting m : Mine M W R) (v : View M W R) (t : ℕ) (machine : M) → waiting ≡ (at_stage v (Waiting t), []) → GetsTurn opening history t waiting m → m.1 ≡ (0, Some machine) ∷ []
      → ((n : ℕ) → Holds (held v) n) → history machine ≡ works_held (held v) v.seen
  whole_at_turn waiting m v t machine waits turn holds whole =
      let k : GetsTurn opening history t (at_stage v (Waiting t), []) m = subst (λ x. GetsTurn opening history t x m) waits turn in
      let same : Some machine ≡ Some k.machine = ap (content_or (Some machine)) (sym holds ∙ ap (λ (x : Mine M W R). x.1) k.now) in
      let one : machine ≡ k.machine = ap (λ o. unwrap_or o machine) same in
      ap history one ∙ (k.history_is ∙ (sym (all_works (held v) k.log whole) ∙ works_so_far (held v) k.log v.seen k.seen k.late))
