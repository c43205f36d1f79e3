-- Histories: what a longer one has of each number.
use Rattle.std.proofs.Common.{◌≡◌, ◌≢◌, ℕ, ◌+◌, ◌-◌, ◌*◌, ◌/◌, ◌%◌, ◌<◌, ◌≤◌, eqb, cond, Bool, true, false, List, [], ◌∷◌, ◌++◌, length, sym, refl, ap, ◌∙◌, subst, ◌⊎◌, ⊎_elim, inl, inr, arith, eq-eqb, ne_eqb, append-nil, length-append}
use Rattle.std.specs.Prelude.{if◌then◌else◌, nat_lt, filter}
use Rattle.std.proofs.lemmas.List.{append_assoc, map-append, nil_from_length}
use Rattle.std.proofs.lemmas.List.Elements.{filter-append}
use Rattle.std.proofs.Math.Nat.{mod-eq_of_lt, mod-lt, mul-add-mod_self_right, div-add-mod'}
use Rattle.std.proofs.lemmas.Nat.{mod-mul-add}
use Rattle.std.proofs.lemmas.Bool.{cases_lt, eqb-true, false_from_ne_true, false≢true, or_left, or_right}
use Rattle.std.proofs.lemmas.Bool.Decides.{nat_tests}
use Rattle.std.specs.Prelude.{◌||◌}
use mathlib.Core.Logic.{dite}
use native.Mathlib.Decide.{ℕ_discrete}
use Rattle.pocket_desk.specs.declared.view.Entry.{Entry}
use Rattle.pocket_desk.specs.declared.view.Numbers.{Numbers}
use Rattle.pocket_desk.specs.declared.view.Pending.{Pending}
use Rattle.pocket_desk.specs.declared.view.Pending.TheVariants.{Nothing, Other}
use Rattle.pocket_desk.specs.History.{entry, works, works_by, works_held, numbers, is_among, BeginsWith, longer, Owns, HasExactly, HasNoneOf, Holds, IsInterleaved}
use Rattle.pocket_desk.specs.View.{all_joined, merged}
use Rattle.pocket_desk.specs.Lock.{Claims, PendingHolds}

-- the remainder by twice a number has the remainder by the number
mod-double : (n a : ℕ) → n % (a + a) % a ≡ n % a
mod-double n a = let q : ℕ = n / (a + a) in let m : ℕ = n % (a + a) in
    sym (mul-add-mod_self_right (q + q) a m) ∙ ap (λ (z : ℕ). z % a) (let e : q * (a + a) + m ≡ n = div-add-mod' n (a + a) in omega arith ∙ e)

mod-next : (number stride : ℕ) → number < stride → (number + stride) % stride ≡ number
mod-next number stride lt = let e : number + stride ≡ 1 * stride + number = omega arith in ap (λ (z : ℕ). z % stride) e ∙ mod-mul-add 1 stride number lt

-- the numbers of each half are numbers of the whole
pub left_owns : (number stride n : ℕ) → number < stride → Owns number (stride + stride) n → Owns number stride n
left_owns number stride n lt o = sym (mod-double n stride) ∙ (ap (λ (z : ℕ). z % stride) o ∙ mod-eq_of_lt lt)

pub right_owns : (number stride n : ℕ) → number < stride → Owns (number + stride) (stride + stride) n → Owns number stride n
right_owns number stride n lt o = sym (mod-double n stride) ∙ (ap (λ (z : ℕ). z % stride) o ∙ mod-next number stride lt)

right_is_new : (number stride n : ℕ) → number < stride → Owns (number + stride) (stride + stride) n → n ≢ number
right_is_new number stride n lt o e =
    let z : number % (stride + stride) ≡ number = mod-eq_of_lt (omega arith) in
    let y : number % (stride + stride) ≡ number + stride = ap (λ (z : ℕ). z % (stride + stride)) (sym e) ∙ o in absurd (omega arith)

-- a number of the whole is one of a half
owns_half : (number stride n : ℕ) → number < stride → Owns number stride n → Owns number (stride + stride) n ⊎ Owns (number + stride) (stride + stride) n
owns_half number stride n lt o =
    let r : ℕ = n % (stride + stride) in
    let below : r < stride + stride = mod-lt n (omega arith) in
    let same : r % stride ≡ number = mod-double n stride ∙ o in
    ⊎_elim (λ (small : r < stride). inl (sym (mod-eq_of_lt small) ∙ same))
    (λ (large : stride ≤ r).
    let over : r - stride < stride = omega arith in
    let again : r - stride + stride ≡ r = omega arith in
    let rest : r - stride ≡ number = sym (mod-next (r - stride) stride over) ∙ (ap (λ (z : ℕ). z % stride) again ∙ same) in inr (omega arith))
    (cases_lt r stride)

-- ---- which numbers are held

same_bool : (a b : Bool) → (a ≡ true → b ≡ true) → (b ≡ true → a ≡ true) → a ≡ b
same_bool true b to from = sym (to refl)
same_bool false true to from = from refl
same_bool false false to from = refl

or_either : (x y : Bool) → (x || y) ≡ true → (x ≡ true) ⊎ (y ≡ true)
or_either true y e = inl refl
or_either false y e = inr e

pub holds_own : (number stride n : ℕ) (joined : List Numbers) → Owns number stride n → Holds (numbers number stride ∷ joined) n
holds_own number stride n joined o = or_left (eqb (n % stride) number) (is_among joined n) (eq-eqb (n % stride) number o)

holds_joined : (number stride n : ℕ) (joined : List Numbers) → Holds joined n → Holds (numbers number stride ∷ joined) n
holds_joined number stride n joined h = or_right (eqb (n % stride) number) (is_among joined n) h

pub holds_either : (number stride n : ℕ) (joined : List Numbers) → Holds (numbers number stride ∷ joined) n → Owns number stride n ⊎ Holds joined n
holds_either number stride n joined h =
    ⊎_elim (λ e. inl (eqb-true (n % stride) number e)) (λ j. inr j) (or_either (eqb (n % stride) number) (is_among joined n) h)

pub holds_alone : (number stride n : ℕ) → Holds (numbers number stride ∷ []) n → Owns number stride n
holds_alone number stride n h = ⊎_elim (λ o. o) (λ (none : false ≡ true). absurd (false≢true none)) (holds_either number stride n [] h)

pub holds_left : (number stride n : ℕ) (joined : List Numbers) → number < stride → Holds (numbers number (stride + stride) ∷ joined) n → Holds (numbers number stride ∷ joined) n
holds_left number stride n joined lt h =
    ⊎_elim (λ o. holds_own number stride n joined (left_owns number stride n lt o)) (λ j. holds_joined number stride n joined j)
    (holds_either number (stride + stride) n joined h)

pub holds_right : (number stride n : ℕ) (joined : List Numbers) → number < stride → Holds (numbers (number + stride) (stride + stride) ∷ []) n → Holds (numbers number stride ∷ joined) n
holds_right number stride n joined lt h = holds_own number stride n joined (right_owns number stride n lt (holds_alone (number + stride) (stride + stride) n h))

pub holds_half : (number stride n : ℕ) (joined : List Numbers) → number < stride → Holds (numbers number stride ∷ joined) n
    → Holds (numbers number (stride + stride) ∷ joined) n ⊎ Holds (numbers (number + stride) (stride + stride) ∷ []) n
holds_half number stride n joined lt h =
    ⊎_elim (λ o. ⊎_elim (λ l. inl (holds_own number (stride + stride) n joined l)) (λ r. inr (holds_own (number + stride) (stride + stride) n [] r)) (owns_half number stride n lt o))
    (λ j. inl (holds_joined number (stride + stride) n joined j))
    (holds_either number stride n joined h)

pub holds_first : (one two : List Numbers) (n : ℕ) → Holds one n → Holds (one ++ two) n
holds_first [] two n h = absurd (false≢true h)
holds_first (these ∷ one) two n h =
    ⊎_elim (λ e. or_left (eqb (n % these.stride) these.first) (is_among (one ++ two) n) e)
    (λ j. or_right (eqb (n % these.stride) these.first) (is_among (one ++ two) n) (holds_first one two n j))
    (or_either (eqb (n % these.stride) these.first) (is_among one n) h)

pub holds_second : (one two : List Numbers) (n : ℕ) → Holds two n → Holds (one ++ two) n
holds_second [] two n h = h
holds_second (these ∷ one) two n h = or_right (eqb (n % these.stride) these.first) (is_among (one ++ two) n) (holds_second one two n h)

pub holds_both : (one two : List Numbers) (n : ℕ) → Holds (one ++ two) n → Holds one n ⊎ Holds two n
holds_both [] two n h = inr h
holds_both (these ∷ one) two n h =
    ⊎_elim (λ e. inl (or_left (eqb (n % these.stride) these.first) (is_among one n) e))
    (λ j. ⊎_elim (λ o. inl (or_right (eqb (n % these.stride) these.first) (is_among one n) o)) (λ t. inr t) (holds_both one two n j))
    (or_either (eqb (n % these.stride) these.first) (is_among (one ++ two) n) h)

module _ {W : Type 0} where
  works_where-append : (by : Entry W → Bool) (xs ys : List (Entry W)) → works (filter by (xs ++ ys)) ≡ works (filter by xs) ++ works (filter by ys)
  works_where-append by xs ys = ap works (filter-append by xs ys) ∙ map-append (λ (e : Entry W). e.work) (filter by xs) (filter by ys)

  works_by-append : (n : ℕ) (xs ys : List (Entry W)) → works_by n (xs ++ ys) ≡ works_by n xs ++ works_by n ys
  works_by-append n xs ys = works_where-append (λ e. eqb e.pass n) xs ys

  works_by-own : (n : ℕ) (xs : List (Entry W)) (x : W) → works_by n (xs ++ entry n x ∷ []) ≡ works_by n xs ++ x ∷ []
  works_by-own n xs x = works_by-append n xs (entry n x ∷ []) ∙ ap (λ b. works_by n xs ++ works (cond b (entry n x ∷ []) [])) (eq-eqb n n refl)

  works_by-other : (n pass : ℕ) (xs : List (Entry W)) (x : W) → pass ≢ n → works_by n (xs ++ entry pass x ∷ []) ≡ works_by n xs
  works_by-other n pass xs x ne = works_by-append n xs (entry pass x ∷ []) ∙ (ap (λ b. works_by n xs ++ works (cond b (entry pass x ∷ []) [])) (ne_eqb pass n ne) ∙ append-nil (works_by n xs))

  abbrev pub begins_longer : (xs ys zs : List (Entry W)) → BeginsWith xs ys → BeginsWith (xs ++ zs) ys
  begins_longer xs ys zs s = (s.0 ++ zs, ap (λ l. l ++ zs) s.1 ∙ append_assoc ys s.0 zs)

  -- what both a list and a beginning of it have, a list between has
  pub works_where-between : (by : Entry W → Bool) (log middle seen : List (Entry W)) (mine : List W) → BeginsWith log middle → BeginsWith middle seen
      → works (filter by log) ≡ mine → works (filter by seen) ≡ mine → works (filter by middle) ≡ mine
  works_where-between by log middle seen mine a b whole part =
      let of : List (Entry W) → List W = λ l. works (filter by l) in
      let e : of middle ≡ mine ++ of b.0 = ap of b.1 ∙ (works_where-append by seen b.0 ∙ ap (λ l. l ++ of b.0) part) in
      let f : mine ≡ of middle ++ of a.0 = sym whole ∙ (ap of a.1 ∙ works_where-append by middle a.0) in
      let le : length mine ≡ length (of middle) + length (of a.0) = ap length f ∙ length-append (of middle) (of a.0) in
      let me : length (of middle) ≡ length mine + length (of b.0) = ap length e ∙ length-append mine (of b.0) in
      e ∙ (ap (λ l. mine ++ l) (nil_from_length (of b.0) (omega arith)) ∙ append-nil mine)

  pub works_by-between : (n : ℕ) (log middle seen : List (Entry W)) (mine : List W) → BeginsWith log middle → BeginsWith middle seen → works_by n log ≡ mine → works_by n seen ≡ mine → works_by n middle ≡ mine
  works_by-between n log middle seen mine a b whole part = works_where-between (λ e. eqb e.pass n) log middle seen mine a b whole part

  -- ---- entries of held numbers

  pub none_more : (held : List Numbers) (entries : List (Entry W)) (pass : ℕ) (x : W) → (Holds held pass → ⊥) → HasNoneOf held entries → HasNoneOf held (entries ++ entry pass x ∷ [])
  none_more held [] pass x free k = (free, tt)
  none_more held (e ∷ entries) pass x free k = (k.0, none_more held entries pass x free k.1)

  pub none_fewer : (held fewer : List Numbers) (entries : List (Entry W)) → ((n : ℕ) → Holds fewer n → Holds held n) → HasNoneOf held entries → HasNoneOf fewer entries
  none_fewer held fewer [] within k = tt
  none_fewer held fewer (e ∷ entries) within k = ((λ h. k.0 (within e.pass h)), none_fewer held fewer entries within k.1)

  none_behind : (held : List Numbers) (xs ys : List (Entry W)) → HasNoneOf held (xs ++ ys) → HasNoneOf held ys
  none_behind held [] ys k = k
  none_behind held (e ∷ xs) ys k = none_behind held xs ys k.1

  none_both : (one two : List Numbers) (entries : List (Entry W)) → HasNoneOf one entries → HasNoneOf two entries → HasNoneOf (one ++ two) entries
  none_both one two [] k l = tt
  none_both one two (e ∷ entries) k l = ((λ h. ⊎_elim k.0 l.0 (holds_both one two e.pass h)), none_both one two entries k.1 l.1)

  -- where all numbers are held
  pub all_works : (held : List Numbers) (entries : List (Entry W)) → ((n : ℕ) → Holds held n) → works_held held entries ≡ works entries
  all_works held [] all = refl
  all_works held (e ∷ entries) all =
      ap (λ b. works (cond b (e ∷ filter (λ (x : Entry W). is_among held x.pass) entries) (filter (λ (x : Entry W). is_among held x.pass) entries))) (all e.pass)
      ∙ ap (λ l. e.work ∷ l) (all_works held entries all)

  no_works : (held : List Numbers) (entries : List (Entry W)) → HasNoneOf held entries → works_held held entries ≡ []
  no_works held [] k = refl
  no_works held (e ∷ entries) k =
      ap (λ b. works (cond b (e ∷ filter (λ (x : Entry W). is_among held x.pass) entries) (filter (λ (x : Entry W). is_among held x.pass) entries))) (false_from_ne_true (is_among held e.pass) k.0)
      ∙ no_works held entries k.1

  -- a beginning with all that came by the held numbers has their works
  pub works_so_far : (held : List Numbers) (log seen : List (Entry W)) (s : BeginsWith log seen) → HasNoneOf held s.0 → works_held held log ≡ works_held held seen
  works_so_far held log seen s k =
      ap (works_held held) s.1 ∙ (works_where-append (λ e. is_among held e.pass) seen s.0
      ∙ (ap (λ l. works_held held seen ++ l) (no_works held s.0 k) ∙ append-nil (works_held held seen)))

  pub works_held-own : (held : List Numbers) (xs : List (Entry W)) (pass : ℕ) (x : W) → Holds held pass → works_held held (xs ++ entry pass x ∷ []) ≡ works_held held xs ++ x ∷ []
  works_held-own held xs pass x h =
      works_where-append (λ e. is_among held e.pass) xs (entry pass x ∷ []) ∙ ap (λ b. works_held held xs ++ works (cond b (entry pass x ∷ []) [])) h

  -- the works of numbers that are held apart
  interleaved_at : (e : Entry W) (xs ys zs : List (Entry W)) (a b c : Bool) → (c ≡ true → (a ≡ true) ⊎ (b ≡ true)) → (a ≡ true → c ≡ true) → (b ≡ true → c ≡ true)
      → (a ≡ true → b ≡ true → ⊥) → IsInterleaved (works xs) (works ys) (works zs)
      → IsInterleaved (works (cond a (e ∷ xs) xs)) (works (cond b (e ∷ ys) ys)) (works (cond c (e ∷ zs) zs))
  interleaved_at e xs ys zs true true c down one two apart is = absurd (apart refl refl)
  interleaved_at e xs ys zs true false true down one two apart is = inl (works xs, refl, is)
  interleaved_at e xs ys zs true false false down one two apart is = absurd (false≢true (one refl))
  interleaved_at e xs ys zs false true true down one two apart is = inr (works ys, refl, is)
  interleaved_at e xs ys zs false true false down one two apart is = absurd (false≢true (two refl))
  interleaved_at e xs ys zs false false true down one two apart is = ⊎_elim (λ f. absurd (false≢true f)) (λ f. absurd (false≢true f)) (down refl)
  interleaved_at e xs ys zs false false false down one two apart is = is

  pub interleaved : (one two : List Numbers) (entries : List (Entry W)) → ((n : ℕ) → Holds one n → Holds two n → ⊥)
      → IsInterleaved (works_held one entries) (works_held two entries) (works_held (one ++ two) entries)
  interleaved one two [] apart = (refl, refl)
  interleaved one two (e ∷ entries) apart =
      interleaved_at e (filter (λ (x : Entry W). is_among one x.pass) entries) (filter (λ (x : Entry W). is_among two x.pass) entries)
      (filter (λ (x : Entry W). is_among (one ++ two) x.pass) entries) (is_among one e.pass) (is_among two e.pass) (is_among (one ++ two) e.pass)
      (holds_both one two e.pass) (holds_first one two e.pass) (holds_second one two e.pass) (apart e.pass) (interleaved one two entries apart)

  -- ---- a live seat's claims

  pub claims_own : (held : List Numbers) (n : ℕ) (p : Pending W) → Holds held n → Claims held p n
  claims_own held n Nothing o = o
  claims_own held n (Other other theirs seen mine) o = inl o

  pub claims_self : (number stride : ℕ) (joined : List Numbers) (p : Pending W) → number < stride → Claims (numbers number stride ∷ joined) p number
  claims_self number stride joined p lt = claims_own (numbers number stride ∷ joined) number p (holds_own number stride number joined (mod-eq_of_lt lt))

  pub claims_left : (number stride n : ℕ) (joined : List Numbers) (p : Pending W) → number < stride → Claims (numbers number (stride + stride) ∷ joined) p n → Claims (numbers number stride ∷ joined) p n
  claims_left number stride n joined Nothing lt c = holds_left number stride n joined lt c
  claims_left number stride n joined (Other other theirs seen mine) lt (inl c) = inl (holds_left number stride n joined lt c)
  claims_left number stride n joined (Other other theirs seen mine) lt (inr c) = inr c

  pub claims_merged : (number stride n : ℕ) (joined : List Numbers) (p : Pending W) → Holds (numbers number stride ∷ all_joined joined p) n → Claims (numbers number stride ∷ joined) p n
  claims_merged number stride n joined Nothing h = h
  claims_merged number stride n joined (Other other theirs seen mine) h = holds_both (numbers number stride ∷ joined) theirs n h

  -- the history grows by another's entry
  pub pending_more : (log : List (Entry W)) (held : List Numbers) (pass : ℕ) (x : W) (p : Pending W) → (Claims held p pass → ⊥) → PendingHolds log held p → PendingHolds (log ++ entry pass x ∷ []) held p
  pending_more log held pass x Nothing free k = tt
  pending_more log held pass x (Other other theirs seen mine) free k = record {
    begins = begins_longer log seen (entry pass x ∷ []) k.begins;
    late = none_more theirs k.begins.0 pass x (λ h. free (inr h)) k.late;
    own = works_by-other other pass log x (λ e. free (inr (subst (Holds theirs) (sym e) k.number_held))) ∙ k.own;
    number_held = k.number_held;
    apart = k.apart;
  }

  pub exactly_more : (log : List (Entry W)) (number stride pass : ℕ) (x : W) (mine : List W) → number < stride → (Owns number stride pass → ⊥) → HasExactly number stride mine log → HasExactly number stride mine (log ++ entry pass x ∷ [])
  exactly_more log number stride pass x mine lt free o = (
    works_by-other number pass log x (λ e. free (subst (Owns number stride) (sym e) (mod-eq_of_lt lt))) ∙ o.0,
    λ n owned ne. works_by-other n pass log x (λ e. free (subst (Owns number stride) (sym e) owned)) ∙ o.1 n owned ne,
  )

  -- the history grows by its own entry
  pub exactly_grows : (log : List (Entry W)) (number stride : ℕ) (x : W) (mine : List W) → HasExactly number stride mine log → HasExactly number stride (mine ++ x ∷ []) (log ++ entry number x ∷ [])
  exactly_grows log number stride x mine o = (works_by-own number log x ∙ ap (λ l. l ++ x ∷ []) o.0, λ n owned ne. works_by-other n number log x (λ e. ne (sym e)) ∙ o.1 n owned ne)

  -- the halves
  pub exactly_left : (log : List (Entry W)) (number stride : ℕ) (mine : List W) → number < stride → HasExactly number stride mine log → HasExactly number (stride + stride) mine log
  exactly_left log number stride mine lt o = (o.0, λ n owned ne. o.1 n (left_owns number stride n lt owned) ne)

  pub exactly_right : (log : List (Entry W)) (number stride : ℕ) (mine : List W) → number < stride → HasExactly number stride mine log → HasExactly (number + stride) (stride + stride) [] log
  exactly_right log number stride mine lt o = (
    o.1 (number + stride) (mod-next number stride lt) (λ e. absurd (omega arith)),
    λ n owned ne. o.1 n (right_owns number stride n lt owned) (right_is_new number stride n lt owned),
  )

  -- two beginnings of one list
  abbrev pub begins_either : (b : Bool) (log xs ys : List (Entry W)) → BeginsWith log xs → BeginsWith log ys → BeginsWith log (if b then ys else xs)
  begins_either true log xs ys p q = q
  begins_either false log xs ys p q = p

  abbrev pub begins_merged : (log xs : List (Entry W)) (held : List Numbers) (p : Pending W) → BeginsWith log xs → PendingHolds log held p → BeginsWith log (merged xs p)
  begins_merged log xs held Nothing s k = s
  begins_merged log xs held (Other other theirs ys mine) s k = begins_either (nat_lt (length xs) (length ys)) log xs ys s k.begins

  abbrev tail_of : List (Entry W) → List (Entry W)
  tail_of [] = []
  tail_of (a ∷ b) = b

  abbrev head_or : Entry W → List (Entry W) → Entry W
  head_or d [] = d
  head_or d (a ∷ b) = a

  shorter : (log xs ys : List (Entry W)) → BeginsWith log xs → BeginsWith log ys → length xs ≤ length ys → BeginsWith ys xs
  shorter log [] ys p q le = (ys, refl)
  shorter log (x ∷ xs) [] p q le = absurd (omega arith)
  shorter [] (x ∷ xs) (y ∷ ys) p q le = let f : 0 ≡ length ((x ∷ xs) ++ p.0) = ap length p.1 in absurd (omega (arith, length-append xs p.0))
  shorter (z ∷ zs) (x ∷ xs) (y ∷ ys) p q le =
      let t = shorter zs xs ys (p.0, ap tail_of p.1) (q.0, ap tail_of q.1) (omega arith) in
      (t.0, λ i. (ap (head_or z) (sym q.1 ∙ p.1) i) ∷ (t.1 i))

  longer_begins_at : (log xs ys : List (Entry W)) → BeginsWith log xs → BeginsWith log ys → (b : Bool) → nat_lt (length xs) (length ys) ≡ b → BeginsWith (if b then ys else xs) xs × BeginsWith (if b then ys else xs) ys
  longer_begins_at log xs ys p q true e = let l : length xs < length ys = grind (arith, nat_tests) in (shorter log xs ys p q (omega arith), ([], sym (append-nil ys)))
  longer_begins_at log xs ys p q false e = let l : length ys ≤ length xs = grind (arith, nat_tests) in (([], sym (append-nil xs)), shorter log ys xs q p l)

  pub longer_begins : (log xs ys : List (Entry W)) → BeginsWith log xs → BeginsWith log ys → BeginsWith (longer xs ys) xs × BeginsWith (longer xs ys) ys
  longer_begins log xs ys p q = longer_begins_at log xs ys p q (nat_lt (length xs) (length ys)) refl

  -- what comes behind the longer of two beginnings comes behind the other
  none_later : (held : List Numbers) (log xs ys : List (Entry W)) (p : BeginsWith log xs) (q : BeginsWith log ys) → length xs ≤ length ys → HasNoneOf held p.0 → HasNoneOf held q.0
  none_later held log [] ys p q le k = none_behind held ys q.0 (subst (HasNoneOf held) (sym p.1 ∙ q.1) k)
  none_later held log (x ∷ xs) [] p q le k = absurd (omega arith)
  none_later held [] (x ∷ xs) (y ∷ ys) p q le k = let f : 0 ≡ length ((x ∷ xs) ++ p.0) = ap length p.1 in absurd (omega (arith, length-append xs p.0))
  none_later held (z ∷ zs) (x ∷ xs) (y ∷ ys) p q le k = none_later held zs xs ys (p.0, ap tail_of p.1) (q.0, ap tail_of q.1) (omega arith) k

  late_either : (held theirs : List Numbers) (log xs ys : List (Entry W)) (p : BeginsWith log xs) (q : BeginsWith log ys) → HasNoneOf held p.0 → HasNoneOf theirs q.0
      → (b : Bool) → nat_lt (length xs) (length ys) ≡ b → HasNoneOf (held ++ theirs) (begins_either b log xs ys p q).0
  late_either held theirs log xs ys p q k l true e = let lt : length xs < length ys = grind (arith, nat_tests) in none_both held theirs q.0 (none_later held log xs ys p q (omega arith) k) l
  late_either held theirs log xs ys p q k l false e = let le : length ys ≤ length xs = grind (arith, nat_tests) in none_both held theirs p.0 k (none_later theirs log ys xs q p le l)

  pub late_merged : (log xs : List (Entry W)) (own : Numbers) (joined : List Numbers) (p : Pending W) (s : BeginsWith log xs) (k : PendingHolds log (own ∷ joined) p) → HasNoneOf (own ∷ joined) s.0
      → HasNoneOf (own ∷ all_joined joined p) (begins_merged log xs (own ∷ joined) p s k).0
  late_merged log xs own joined Nothing s k late = late
  late_merged log xs own joined (Other other theirs ys mine) s k late =
      late_either (own ∷ joined) theirs log xs ys s k.begins late k.late (nat_lt (length xs) (length ys)) refl

  -- ---- what a pass that is cut in two has

  -- of its numbers, the entries have no other than its own
  abbrev OnlyOwn : ℕ → ℕ → List (Entry W) → Type 0
  OnlyOwn number stride [] = Unit {0}
  OnlyOwn number stride (e ∷ entries) = (Owns number stride e.pass → e.pass ≡ number) × OnlyOwn number stride entries

  no_first : (e : Entry W) (entries : List (Entry W)) → works_by e.pass (e ∷ entries) ≡ [] → ⊥
  no_first e entries none =
      let there : works_by e.pass (e ∷ entries) ≡ e.work ∷ works_by e.pass entries =
      ap (λ b. works (cond b (e ∷ filter (λ (x : Entry W). eqb x.pass e.pass) entries) (filter (λ (x : Entry W). eqb x.pass e.pass) entries))) (eq-eqb e.pass e.pass refl) in
      let size : 0 ≡ length (e.work ∷ works_by e.pass entries) = ap length (sym none ∙ there) in absurd (omega arith)

  none_after : (e : Entry W) (found : List (Entry W)) (b : Bool) → works (cond b (e ∷ found) found) ≡ [] → works found ≡ []
  none_after e found true none = let size : length (e.work ∷ works found) ≡ 0 = ap length none in absurd (omega arith)
  none_after e found false none = none

  only_own : (number stride : ℕ) (entries : List (Entry W)) → ((n : ℕ) → Owns number stride n → n ≢ number → works_by n entries ≡ []) → OnlyOwn number stride entries
  only_own number stride [] h = tt
  only_own number stride (e ∷ entries) h = (
    (λ o. dite (ℕ_discrete e.pass number) (λ same. same) (λ ne. absurd (no_first e entries (h e.pass o ne)))),
    only_own number stride entries (λ n o ne. none_after e (filter (λ (x : Entry W). eqb x.pass n) entries) (eqb e.pass n) (h n o ne)),
  )

  same_works : (e : Entry W) (xs ys : List (Entry W)) (b : Bool) → works xs ≡ works ys → works (cond b (e ∷ xs) xs) ≡ works (cond b (e ∷ ys) ys)
  same_works e xs ys true s = ap (λ l. e.work ∷ l) s
  same_works e xs ys false s = s

  left_works_at : (number stride : ℕ) (joined : List Numbers) (entries : List (Entry W)) → number < stride → OnlyOwn number stride entries
      → works_held (numbers number (stride + stride) ∷ joined) entries ≡ works_held (numbers number stride ∷ joined) entries
  left_works_at number stride joined [] lt only = refl
  left_works_at number stride joined (e ∷ entries) lt only =
      let left : List Numbers = numbers number (stride + stride) ∷ joined in
      let whole : List Numbers = numbers number stride ∷ joined in
      let same : is_among left e.pass ≡ is_among whole e.pass =
      same_bool (is_among left e.pass) (is_among whole e.pass) (holds_left number stride e.pass joined lt)
      (λ h. ⊎_elim
      (λ o. holds_own number (stride + stride) e.pass joined (subst (Owns number (stride + stride)) (sym (only.0 o)) (mod-eq_of_lt (omega arith))))
      (λ j. holds_joined number (stride + stride) e.pass joined j)
      (holds_either number stride e.pass joined h)) in
      ap (λ b. works (cond b (e ∷ filter (λ (x : Entry W). is_among left x.pass) entries) (filter (λ (x : Entry W). is_among left x.pass) entries))) same
      ∙ same_works e (filter (λ (x : Entry W). is_among left x.pass) entries) (filter (λ (x : Entry W). is_among whole x.pass) entries) (is_among whole e.pass)
      (left_works_at number stride joined entries lt only.1)

  pub left_works : (number stride : ℕ) (joined : List Numbers) (mine : List W) (entries : List (Entry W)) → number < stride → HasExactly number stride mine entries
      → works_held (numbers number (stride + stride) ∷ joined) entries ≡ works_held (numbers number stride ∷ joined) entries
  left_works number stride joined mine entries lt own = left_works_at number stride joined entries lt (only_own number stride entries own.1)

  right_none : (number stride : ℕ) (entries : List (Entry W)) → number < stride → OnlyOwn number stride entries → HasNoneOf (numbers (number + stride) (stride + stride) ∷ []) entries
  right_none number stride [] lt only = tt
  right_none number stride (e ∷ entries) lt only = (
    (λ h. let o = holds_alone (number + stride) (stride + stride) e.pass h in
        right_is_new number stride e.pass lt o (only.0 (right_owns number stride e.pass lt o))),
    right_none number stride entries lt only.1,
  )

  pub right_works : (number stride : ℕ) (mine : List W) (entries : List (Entry W)) → number < stride → HasExactly number stride mine entries
      → works_held (numbers (number + stride) (stride + stride) ∷ []) entries ≡ []
  right_works number stride mine entries lt own =
      no_works (numbers (number + stride) (stride + stride) ∷ []) entries (right_none number stride entries lt (only_own number stride entries own.1))
