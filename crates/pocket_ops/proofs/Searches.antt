-- Why a search comes to the meaning of its pattern.
use Rattle.std.proofs.Common.{◌≡◌, ℕ, zero, suc, ◌+◌, ◌<◌, List, [], ◌∷◌, ◌++◌, ◌==◌, ◌||◌, ◌&&◌, not, Bool, true, false, length, drop, Option, Some, None, if◌then◌else◌, refl, sym, ◌∙◌, ap, subst, inl, inr, arith}
use Rattle.std.proofs.Math.Nat.{mul-le-mul_right}
use Rattle.std.proofs.lemmas.Bool.{or_cases, and_parts, not-true, not-false}
use Rattle.std.proofs.lemmas.List.{append-nil}
use Rattle.std.specs.Char.{eq_ignore_ascii_case}
use Rattle.std.specs.Bool.{then_some}
use denote.Ref.{Bor}
use Rattle.pocket_ops.specs.declared.likeness.Piece.{Piece}
use Rattle.pocket_ops.specs.declared.likeness.Piece.TheVariants as piece
use Rattle.pocket_ops.specs.declared.likeness.Place.{Place}
use Rattle.pocket_ops.specs.Likeness.{pieces_of, matches, some_end, begins, has_any, is_like}
use Rattle.pocket_ops.specs.Searching.{pieces_left, is_match, some_later_end, is_later_match, outcome, HasPassed, IsWithin, turns_left, GoesOn, IsOnWay}

-- ---- tests

or_false : (b : Bool) → b || false ≡ b
or_false true = refl
or_false false = refl

or_true : (b : Bool) → b || true ≡ true
or_true true = refl
or_true false = refl

-- what implies the first adds nothing
or_absorbed : (a b : Bool) → (b ≡ true → a ≡ true) → a || b ≡ a
or_absorbed true b h = refl
or_absorbed false true h = sym (h refl)
or_absorbed false false h = refl

-- ---- where a run of bytes ends

module _ (q : List ℕ → Bool) where
  -- here, or later
  pub ends_here_or_later : (t : List ℕ) → some_end q t ≡ q t || some_later_end q t
  ends_here_or_later [] = sym (or_false (q []))
  ends_here_or_later (b ∷ t) = refl

  -- a later end is one
  end_behind : (k : ℕ) (t : List ℕ) → some_end q (drop k t) ≡ true → some_end q t ≡ true
  end_behind zero t h = h
  end_behind (suc k) [] h = h
  end_behind (suc k) (b ∷ t) h = ap (λ x. q (b ∷ t) || x) (end_behind k t h) ∙ or_true (q (b ∷ t))

  -- where an end is
  place_of_end : (t : List ℕ) → some_end q t ≡ true → (k : ℕ) × (q (drop k t) ≡ true)
  place_of_end [] h = (zero, h)
  place_of_end (b ∷ t) h =
      elim (or_cases (q (b ∷ t)) (some_end q t) h) [
        | inl here ↦ (zero, here)
        | inr later ↦ let found = place_of_end t later in (suc found.0, found.1)
      ]

  place_of_later_end : (t : List ℕ) → some_later_end q t ≡ true → (k : ℕ) × (q (drop k t) ≡ true)
  place_of_later_end [] h = cc
  place_of_later_end (b ∷ t) h = let found = place_of_end t h in (suc found.0, found.1)

drop_one : (k : ℕ) (b : ℕ) (t : List ℕ) → drop 1 (drop k (b ∷ t)) ≡ drop k t
drop_one zero b t = refl
drop_one (suc k) b t = drops k t
  where
    drops : (k : ℕ) (t : List ℕ) → drop 1 (drop k t) ≡ drop (suc k) t
    drops zero t = refl
    drops (suc k) [] = refl
    drops (suc k) (c ∷ t) = drops k t

-- what begins with a byte and goes on
rest_passes : (c : ℕ) (q : List ℕ → Bool) (t : List ℕ) → begins c q t ≡ true → q (drop 1 t) ≡ true
rest_passes c q [] h = cc
rest_passes c q (b ∷ t) h = (and_parts (eq_ignore_ascii_case c b) (q t) h).1

every_end : (t : List ℕ) → some_end (λ x. length x == 0) t ≡ true
every_end [] = refl
every_end (b ∷ t) = ap (λ x. (length (b ∷ t) == 0) || x) (every_end t) ∙ or_true (length (b ∷ t) == 0)

-- ---- what is left of a pattern

module _ (anywhere : Bool) (pattern : List ℕ) where
  -- its first piece
  match_behind : (p : Piece) (rest : List ℕ) → pieces_of pattern ≡ p ∷ pieces_of rest → (t : List ℕ) → is_match anywhere pattern t ≡ matches (p ∷ pieces_left anywhere rest) t
  match_behind p rest is t = ap (λ ps. matches (ps ++ (if anywhere then piece.Any ∷ [] else [])) t) is

  -- its end
  match_at_end : pieces_of pattern ≡ [] → (t : List ℕ) → is_match anywhere pattern t ≡ matches (if anywhere then piece.Any ∷ [] else []) t
  match_at_end is t = ap (λ ps. matches (ps ++ (if anywhere then piece.Any ∷ [] else [])) t) is

-- ---- turns

-- the last run takes one byte more
pub goes_back : (anywhere : Bool) (here back : Place) (b : ℕ) (text : Bor (List ℕ)) → back.text.now ≡ b ∷ text.now
    → GoesOn (is_later_match anywhere (Some back)) (record { here = here; back = Some back; anywhere = anywhere })
    (record { here = record { pattern = back.pattern; text = text }; back = Some (record { pattern = back.pattern; text = text }); anywhere = anywhere })
goes_back anywhere here back b text is =
    let shorter : length back.text.now ≡ suc (length text.now) = ap length is in
    record {
      same = sym (ap (some_later_end (is_match anywhere back.pattern.now)) is ∙ ends_here_or_later (is_match anywhere back.pattern.now) text.now);
      passed = λ k h. h;
      within = λ bound w. (w.1, w.1, omega arith);
      nearer = λ bound w. rw shorter (omega (arith, w.1));
    }

-- a byte of the pattern is passed
pub goes_over : (anywhere : Bool) (here : Place) (back : Option Place) (c b : ℕ) (pattern text : Bor (List ℕ))
    → pieces_of here.pattern.now ≡ piece.Byte c ∷ pieces_of pattern.now → length pattern.now < length here.pattern.now
    → here.text.now ≡ b ∷ text.now → eq_ignore_ascii_case c b ≡ true → HasPassed anywhere here back
    → GoesOn (outcome (record { here = here; back = back; anywhere = anywhere })) (record { here = here; back = back; anywhere = anywhere })
    (record { here = record { pattern = pattern; text = text }; back = back; anywhere = anywhere })
goes_over anywhere here back c b pattern text first less is same passed =
    let shorter : length here.text.now ≡ suc (length text.now) = ap length is in
    let behind = match_behind anywhere here.pattern.now (piece.Byte c) pattern.now first in
    let now : is_match anywhere here.pattern.now here.text.now ≡ is_match anywhere pattern.now text.now =
    behind here.text.now ∙ ap (begins c (is_match anywhere pattern.now)) is ∙ ap (λ x. x && is_match anywhere pattern.now text.now) same in
    record {
      same = ap (λ x. x || is_later_match anywhere back) (sym now);
      passed = still back passed;
      within = within back;
      nearer = nearer shorter back;
    }
  where
    still : (back : Option Place) → HasPassed anywhere here back → HasPassed anywhere (record { pattern = pattern; text = text }) back
    still None h = h
    still (Some back) h =
        λ k e.
        let e' = h k e in
        let e'' = sym (match_behind anywhere here.pattern.now (piece.Byte c) pattern.now first (drop k here.text.now)) ∙ e' in
        sym (ap (is_match anywhere pattern.now) (ap (λ t. drop 1 (drop k t)) is ∙ drop_one k b text.now))
        ∙ rest_passes c (is_match anywhere pattern.now) (drop k here.text.now) e''

    within : (back : Option Place) (bound : ℕ) → IsWithin bound here back → IsWithin bound (record { pattern = pattern; text = text }) back
    within None bound w = omega arith
    within (Some back) bound w = (omega (arith, w.0), w.1, omega (arith, w.2, ap length is))

    nearer : length here.text.now ≡ suc (length text.now) → (back : Option Place) (bound : ℕ) → IsWithin bound here back
        → turns_left bound (record { here = record { pattern = pattern; text = text }; back = back; anywhere = anywhere })
        < turns_left bound (record { here = here; back = back; anywhere = anywhere })
    nearer shorter None bound w = rw shorter (omega arith)
    nearer shorter (Some back) bound w = omega arith

-- a run of bytes begins, empty so far
pub goes_into : (anywhere : Bool) (here : Place) (back : Option Place) (pattern : Bor (List ℕ))
    → pieces_of here.pattern.now ≡ piece.Any ∷ pieces_of pattern.now → length pattern.now < length here.pattern.now → HasPassed anywhere here back
    → GoesOn (outcome (record { here = here; back = back; anywhere = anywhere })) (record { here = here; back = back; anywhere = anywhere })
    (record { here = record { pattern = pattern; text = here.text }; back = Some (record { pattern = pattern; text = here.text }); anywhere = anywhere })
goes_into anywhere here back pattern first less passed =
    record {
      same = sym (added back passed ∙ now here.text.now ∙ ends_here_or_later (is_match anywhere pattern.now) here.text.now);
      passed = λ k h. h;
      within = within back;
      nearer = nearer back;
    }
  where
    now : (t : List ℕ) → is_match anywhere here.pattern.now t ≡ some_end (is_match anywhere pattern.now) t
    now t = match_behind anywhere here.pattern.now piece.Any pattern.now first t

    -- going back to an earlier run can't help
    added : (back : Option Place) → HasPassed anywhere here back
        → is_match anywhere here.pattern.now here.text.now || is_later_match anywhere back ≡ is_match anywhere here.pattern.now here.text.now
    added None h = or_false (is_match anywhere here.pattern.now here.text.now)
    added (Some back) h =
        or_absorbed (is_match anywhere here.pattern.now here.text.now) (is_later_match anywhere (Some back))
        (λ e.
        let found = place_of_later_end (is_match anywhere back.pattern.now) back.text.now e in
        let later = sym (now (drop found.0 here.text.now)) ∙ h found.0 found.1 in
        now here.text.now ∙ end_behind (is_match anywhere pattern.now) found.0 here.text.now later)

    within : (back : Option Place) (bound : ℕ) → IsWithin bound here back
        → IsWithin bound (record { pattern = pattern; text = here.text }) (Some (record { pattern = pattern; text = here.text }))
    within None bound w = (omega arith, omega arith, omega arith)
    within (Some back) bound w = (omega (arith, w.0), omega (arith, w.0), omega arith)

    nearer : (back : Option Place) (bound : ℕ) → IsWithin bound here back
        → turns_left bound (record { here = record { pattern = pattern; text = here.text }; back = Some (record { pattern = pattern; text = here.text }); anywhere = anywhere })
        < turns_left bound (record { here = here; back = back; anywhere = anywhere })
    nearer None bound w = omega arith
    nearer (Some back) bound w = omega (arith, mul-le-mul_right (bound + 1) w.2)

-- ---- answers

-- at the pattern's end the text may go on only where the pattern may stand anywhere
pub matches_at_end : (anywhere : Bool) (here : Place) (back : Option Place) → pieces_of here.pattern.now ≡ [] → anywhere || (length here.text.now == 0) ≡ true
    → outcome (record { here = here; back = back; anywhere = anywhere }) ≡ true
matches_at_end anywhere here back ends ok = ap (λ x. x || is_later_match anywhere back) (match_at_end anywhere here.pattern.now ends here.text.now ∙ done anywhere here.text.now ok)
  where
    done : (anywhere : Bool) (t : List ℕ) → anywhere || (length t == 0) ≡ true → matches (if anywhere then piece.Any ∷ [] else []) t ≡ true
    done true t h = every_end t
    done false t h = h

pub fails_at_end : (anywhere : Bool) (here : Place) (back : Option Place) → pieces_of here.pattern.now ≡ [] → anywhere || (length here.text.now == 0) ≡ false
    → outcome (record { here = here; back = back; anywhere = anywhere }) ≡ is_later_match anywhere back
fails_at_end anywhere here back ends ok = ap (λ x. x || is_later_match anywhere back) (match_at_end anywhere here.pattern.now ends here.text.now ∙ missed anywhere here.text.now ok)
  where
    missed : (anywhere : Bool) (t : List ℕ) → anywhere || (length t == 0) ≡ false → matches (if anywhere then piece.Any ∷ [] else []) t ≡ false
    missed true t h = cc
    missed false t h = h

pub fails_at_byte : (anywhere : Bool) (here : Place) (back : Option Place) (c : ℕ) (pattern : List ℕ) → pieces_of here.pattern.now ≡ piece.Byte c ∷ pieces_of pattern
    → begins c (is_match anywhere pattern) here.text.now ≡ false
    → outcome (record { here = here; back = back; anywhere = anywhere }) ≡ is_later_match anywhere back
fails_at_byte anywhere here back c pattern first fails =
    ap (λ x. x || is_later_match anywhere back) (match_behind anywhere here.pattern.now (piece.Byte c) pattern first here.text.now ∙ fails)

-- ---- the first place

-- a pattern without any run stands behind one
pub starts_anywhere : (here : Place) → has_any (pieces_of here.pattern.now) ≡ false
    → outcome (record { here = here; back = Some here; anywhere = true }) ≡ is_like here.text.now here.pattern.now
unfolding is_like
starts_anywhere here none =
    sym (ends_here_or_later (is_match true here.pattern.now) here.text.now)
    ∙ sym (ap (λ b. matches (if b then pieces_of here.pattern.now else piece.Any ∷ pieces_of here.pattern.now ++ piece.Any ∷ []) here.text.now) none)

pub starts_fixed : (here : Place) → has_any (pieces_of here.pattern.now) ≡ true
    → outcome (record { here = here; back = None; anywhere = false }) ≡ is_like here.text.now here.pattern.now
unfolding is_like
starts_fixed here some =
    or_false (is_match false here.pattern.now here.text.now)
    ∙ ap (λ ps. matches ps here.text.now) (append-nil (pieces_of here.pattern.now))
    ∙ sym (ap (λ b. matches (if b then pieces_of here.pattern.now else piece.Any ∷ pieces_of here.pattern.now ++ piece.Any ∷ []) here.text.now) some)

pub starts : (here : Place) (back : Option Place) (anywhere : Bool) → anywhere ≡ not (has_any (pieces_of here.pattern.now))
    → back ≡ then_some anywhere here → IsOnWay here.text.now here.pattern.now (record { here = here; back = back; anywhere = anywhere })
starts here back true none is =
    subst (λ (o : Option Place). IsOnWay here.text.now here.pattern.now (record { here = here; back = o; anywhere = true })) (sym is)
    (record { same = starts_anywhere here (not-true (has_any (pieces_of here.pattern.now)) (sym none)); passed = λ k h. h; within = (omega arith, omega arith, omega arith) })
starts here back false some is =
    subst (λ (o : Option Place). IsOnWay here.text.now here.pattern.now (record { here = here; back = o; anywhere = false })) (sym is)
    (record { same = starts_fixed here (not-false (has_any (pieces_of here.pattern.now)) (sym some)); passed = tt; within = omega arith })
