-- The changes of a field's cell, taken one after another, are those that a body's keys ask for.
use Rattle.std.proofs.Common.{◌≡◌, ◌+◌, ◌^◌, ◌<◌, ℕ, ℤ, pos, negsuc, Bool, true, false, List, [], ◌∷◌, map, filter, filter_map, fold, Option, Some, None, Result, Ok, Err, option_map, if◌then◌else◌, refl, sym, ap, ◌∙◌, arith}
use Rattle.std.specs.List.{cons_option}
use Rattle.std.specs.Option.{option_map_or}
use Rattle.std.proofs.lemmas.Int.{ints}
use Rattle.pocket_types.specs.Chains.{◌>>=◌, each, or_refuse}
use Rattle.pocket_types.specs.Profile.{size_of}
use Rattle.pocket_types.specs.Sound.{Fits}
use Rattle.pocket_types.specs.declared.json.Jv.{Jv}
use Rattle.pocket_types.specs.declared.json.Member.{Member}
use Rattle.pocket_types.specs.declared.records.Cell.{Cell}
use Rattle.pocket_types.specs.declared.records.Cell.TheVariants as cell
use Rattle.pocket_types.specs.declared.records.Field.{Field}
use Rattle.pocket_types.specs.declared.records.Kind.{Kind}
use Rattle.pocket_types.specs.declared.records.Kind.TheVariants as kind
use Rattle.pocket_types.specs.declared.requests.Caller.{Caller}
use Rattle.pocket_types.specs.declared.requests.Sent.{Sent}
use Rattle.pocket_rows.specs.Cells.{value_under}
use Rattle.pocket_check.specs.Bodies.{all_changes, cell_changed, change_under, field_sent, has_key, is_ignored, items_changed, key_of, keyed, keys_of, read_change, sent_by}
use Rattle.pocket_check.specs.Cells.{cell_of}
use Rattle.pocket_check.specs.Changes.{IsWithin, after_change, after_changes, as_sent, cell_by_now, field_read, read_cell}
use Rattle.pocket_check.specs.declared.change.Change.{Change}
use Rattle.pocket_check.specs.declared.change.Change.TheVariants.{Becomes, Before, Behind, Without}
use Rattle.pocket_check.specs.declared.fault.CheckFault.{CheckFault}
use Rattle.pocket_check.specs.declared.fault.CheckFault.TheVariants.{BadValue}

-- ---- items

pub picks_changed : (change : Change) (old given : List (List ℕ)) → cell_changed change (cell.Picks old) (cell.Picks given) ≡ cell.Picks (items_changed change old given)
picks_changed Becomes old given = refl
picks_changed Before old given = refl
picks_changed Behind old given = refl
picks_changed Without old given = refl

pub refs_changed : (change : Change) (old given : List (List ℕ)) → cell_changed change (cell.Refs old) (cell.Refs given) ≡ cell.Refs (items_changed change old given)
refs_changed Becomes old given = refl
refs_changed Before old given = refl
refs_changed Behind old given = refl
refs_changed Without old given = refl

-- ---- keys one after another

abbrev Key : Type 0
Key = List ℕ × Change

-- a field's cell after what is asked for under keys
abbrev run : Field → List Member → Cell → List Key → Option Cell → Result (Option Cell) CheckFault
run f ms old [] now = Ok now
run f ms old (k ∷ ks) now =
    option_map_or (λ tree. read_cell f tree >>= λ given. run f ms old ks (Some (cell_changed k.1 (cell_by_now old now) given))) (value_under k.0 ms) (run f ms old ks now)

-- a cell after changes that were read
abbrev sent_from : Cell → Option Cell → List (Change × Cell) → Option Cell
sent_from old now [] = now
sent_from old now (x ∷ xs) = Some (fold (λ c y. cell_changed y.0 c y.1) (cell_by_now old now) (x ∷ xs))

more_sent : (old : Cell) (now : Option Cell) (x : Change × Cell) (xs : List (Change × Cell))
    → sent_from old (Some (cell_changed x.0 (cell_by_now old now) x.1)) xs ≡ sent_from old now (x ∷ xs)
more_sent old now x [] = refl
more_sent old now x (y ∷ xs) = refl

-- a cell after one change more
abbrev next_cell : Change → Cell → Option Cell → Cell → Option Cell
next_cell change old now given = Some (cell_changed change (cell_by_now old now) given)

read_joined : (change : Change) (old : Cell) (now : Option Cell) (given : Cell) (r : Result (List (Change × Cell)) CheckFault)
    → ((r >>= λ ys. Ok ((change, given) ∷ ys)) >>= λ changes. Ok (sent_from old now changes)) ≡ (r >>= λ changes. Ok (sent_from old (next_cell change old now given) changes))
read_joined change old now given (Ok ys) = ap (λ z. Ok z) (sym (more_sent old now (change, given) ys))
read_joined change old now given (Err e) = refl

-- reading all changes first comes to the same
run_reads : (f : Field) (ms : List Member) (old : Cell) (ks : List Key) (now : Option Cell)
    → (each (read_change f) (filter_map (change_under ms) ks) >>= λ changes. Ok (sent_from old now changes)) ≡ run f ms old ks now
run_reads f ms old [] now = refl
run_reads f ms old ((key, change) ∷ ks) now = under (run_reads f ms old ks) (value_under key ms)
  where
    given_by : ((later : Option Cell) → (each (read_change f) (filter_map (change_under ms) ks) >>= λ changes. Ok (sent_from old later changes)) ≡ run f ms old ks later)
        → (found : Option Cell)
        → ((or_refuse (option_map (λ given. (change, given)) found) (BadValue f.name) >>= λ y. each (read_change f) (filter_map (change_under ms) ks) >>= λ ys. Ok (y ∷ ys))
        >>= λ changes. Ok (sent_from old now changes))
        ≡ (or_refuse found (BadValue f.name) >>= λ given. run f ms old ks (next_cell change old now given))
    given_by rest None = refl
    given_by rest (Some given) = read_joined change old now given (each (read_change f) (filter_map (change_under ms) ks)) ∙ rest (next_cell change old now given)

    under : ((later : Option Cell) → (each (read_change f) (filter_map (change_under ms) ks) >>= λ changes. Ok (sent_from old later changes)) ≡ run f ms old ks later)
        → (o : Option Jv)
        → (each (read_change f) (cons_option (option_map (λ tree. (change, tree)) o) (filter_map (change_under ms) ks)) >>= λ changes. Ok (sent_from old now changes))
        ≡ option_map_or (λ tree. read_cell f tree >>= λ given. run f ms old ks (next_cell change old now given)) o (run f ms old ks now)
    under rest None = rest now
    under rest (Some tree) = given_by rest (cell_of f.kind tree)

-- ---- the four changes

-- after changes one after another
abbrev chain : Field → List Member → Cell → List Change → Option Cell → Result (Option Cell) CheckFault
chain f ms old [] now = Ok now
chain f ms old (c ∷ cs) now = after_change f ms old c now >>= chain f ms old cs

abbrev keys_from : Field → List Change → List Key
keys_from f cs = map (keyed f.name) (filter (has_key f.kind) cs)

-- one change more, by what is asked for
abbrev step : Field → Cell → Change → Option Cell → Option Jv → Result (Option Cell) CheckFault
step f old c now o = option_map_or (λ tree. read_cell f tree >>= λ given. Ok (next_cell c old now given)) o (Ok now)

chain_runs : (f : Field) (ms : List Member) (old : Cell) (cs : List Change) (now : Option Cell) → run f ms old (keys_from f cs) now ≡ chain f ms old cs now
unfolding after_change
chain_runs f ms old [] now = refl
chain_runs f ms old (c ∷ cs) now = by (chain_runs f ms old cs) (has_key f.kind c)
  where
    given_by : ((later : Option Cell) → run f ms old (keys_from f cs) later ≡ chain f ms old cs later) → (r : Result Cell CheckFault)
        → (r >>= λ given. run f ms old (keys_from f cs) (next_cell c old now given)) ≡ ((r >>= λ given. Ok (next_cell c old now given)) >>= chain f ms old cs)
    given_by rest (Ok given) = rest (next_cell c old now given)
    given_by rest (Err e) = refl

    under : ((later : Option Cell) → run f ms old (keys_from f cs) later ≡ chain f ms old cs later) → (o : Option Jv)
        → option_map_or (λ tree. read_cell f tree >>= λ given. run f ms old (keys_from f cs) (next_cell c old now given)) o (run f ms old (keys_from f cs) now)
        ≡ (step f old c now o >>= chain f ms old cs)
    under rest None = rest now
    under rest (Some tree) = given_by rest (read_cell f tree)

    by : ((later : Option Cell) → run f ms old (keys_from f cs) later ≡ chain f ms old cs later) → (b : Bool)
        → run f ms old (map (keyed f.name) (if b then c ∷ filter (has_key f.kind) cs else filter (has_key f.kind) cs)) now
        ≡ (step f old c now (if b then value_under (key_of f.name c) ms else None) >>= chain f ms old cs)
    by rest true = under rest (value_under (key_of f.name c) ms)
    by rest false = rest now

-- ---- a field

same_next : {A B : Type 0} (r : Result A CheckFault) (f g : A → Result B CheckFault) → ((x : A) → f x ≡ g x) → (r >>= f) ≡ (r >>= g)
same_next (Ok x) f g same = same x
same_next (Err e) f g same = refl

ends : {A : Type 0} (r : Result A CheckFault) → (r >>= λ x. Ok x) ≡ r
ends (Ok x) = refl
ends (Err e) = refl

chain_is : (f : Field) (ms : List Member) (old : Cell) → chain f ms old all_changes None ≡ after_changes f ms old
unfolding after_changes
chain_is f ms old =
    let next = after_change f ms old in
    same_next (next Becomes None) _ _ (λ a. same_next (next Before a) _ _ (λ b. same_next (next Behind b) _ _ (λ c. ends (next Without c))))

named_later : (f : Field) (old : Cell) (r : Result (List (Change × Cell)) CheckFault)
    → (r >>= λ changes. Ok (sent_by f old changes)) ≡ ((r >>= λ changes. Ok (sent_from old None changes)) >>= λ found. Ok (option_map (as_sent f) found))
named_later f old (Ok []) = refl
named_later f old (Ok (x ∷ xs)) = refl
named_later f old (Err e) = refl

-- a field's keys, read and applied
abbrev sent_under : Field → List Member → Cell → List Key → Result (Option Sent) CheckFault
sent_under f ms old keys = each (read_change f) (filter_map (change_under ms) keys) >>= λ changes. Ok (sent_by f old changes)

-- a field that isn't ignored is sent with its cell after all changes
pub not_ignored_read : (who : Caller) (ms : List Member) (f : Field) (old : Cell) → is_ignored who f ≡ false
    → field_sent who ms (f, old) ≡ field_read f ms old
not_ignored_read who ms f old not_ignored =
    ap (λ b. sent_under f ms old (if b then [] else keys_of f)) not_ignored
    ∙ named_later f old (each (read_change f) (filter_map (change_under ms) (keys_of f)))
    ∙ ap (λ r. r >>= λ found. Ok (option_map (as_sent f) found))
    (run_reads f ms old (keys_of f) None ∙ chain_runs f ms old all_changes None ∙ chain_is f ms old)

pub ignored_unread : (who : Caller) (ms : List Member) (f : Field) (old : Cell) → is_ignored who f ≡ true → field_sent who ms (f, old) ≡ Ok None
ignored_unread who ms f old ignored = ap (λ b. sent_under f ms old (if b then [] else keys_of f)) ignored

-- ---- sizes

-- a small number is of at most 2^53 in size
pub small_bounds : (n : ℤ) → size_of n < 2 ^ 53 → IsWithin 1 (cell.Num n)
small_bounds n h = by n h
  where
    by : (n : ℤ) → size_of n < 2 ^ 53 → IsWithin 1 (cell.Num n)
    by (pos n) h = (omega (arith, ints), omega (arith, ints, h))
    by (negsuc n) h = (omega (arith, ints, h), omega (arith, ints))

-- a cell that fits is of at most 2^53 in size
pub fits_within : (k : Kind) (c : Cell) → Fits k c → IsWithin 1 c
fits_within (kind.Number min max) (cell.Num n) h = small_bounds n h
fits_within (kind.Text min max) (cell.Num n) h = absurd h
fits_within kind.Flag (cell.Num n) h = absurd h
fits_within (kind.Date min max) (cell.Num n) h = absurd h
fits_within (kind.Select values most) (cell.Num n) h = absurd h
fits_within (kind.Json max) (cell.Num n) h = absurd h
fits_within (kind.Relation target most cascade) (cell.Num n) h = absurd h
fits_within k (cell.Text t) h = tt
fits_within k (cell.Flag b) h = tt
fits_within k (cell.Date d) h = tt
fits_within k (cell.Picks items) h = tt
fits_within k (cell.Json tree) h = tt
fits_within k (cell.Refs ids) h = tt

-- what is small is small for more times
pub within_more : (times : ℕ) (c : Cell) → IsWithin times c → IsWithin (times + 1) c
within_more times (cell.Num n) h = (omega (arith, ints, h.0), omega (arith, ints, h.1))
within_more times (cell.Text t) h = tt
within_more times (cell.Flag b) h = tt
within_more times (cell.Date d) h = tt
within_more times (cell.Picks items) h = tt
within_more times (cell.Json tree) h = tt
within_more times (cell.Refs ids) h = tt

given_within : (times : ℕ) (c : Cell) → IsWithin 1 c → IsWithin (times + 1) c
given_within times (cell.Num n) h = (omega (arith, ints, h.0), omega (arith, ints, h.1))
given_within times (cell.Text t) h = tt
given_within times (cell.Flag b) h = tt
given_within times (cell.Date d) h = tt
given_within times (cell.Picks items) h = tt
given_within times (cell.Json tree) h = tt
given_within times (cell.Refs ids) h = tt

numbers_within : (times : ℕ) (change : Change) (n m : ℤ) → IsWithin times (cell.Num n) → IsWithin 1 (cell.Num m) → IsWithin (times + 1) (cell_changed change (cell.Num n) (cell.Num m))
numbers_within times Becomes n m h g = given_within times (cell.Num m) g
numbers_within times Before n m h g = given_within times (cell.Num m) g
numbers_within times Behind n m h g = (omega (arith, ints, h.0, g.0), omega (arith, ints, h.1, g.1))
numbers_within times Without n m h g = (omega (arith, ints, h.0, g.1), omega (arith, ints, h.1, g.0))

-- a change by a small number adds as much
pub changed_within : (times : ℕ) (change : Change) (old given : Cell) → IsWithin times old → IsWithin 1 given → IsWithin (times + 1) (cell_changed change old given)
changed_within times Becomes old given h g = given_within times given g
changed_within times Before (cell.Picks old) (cell.Picks given) h g = tt
changed_within times Before (cell.Refs old) (cell.Refs given) h g = tt
changed_within times Behind (cell.Num n) (cell.Num m) h g = numbers_within times Behind n m h g
changed_within times Behind (cell.Picks old) (cell.Picks given) h g = tt
changed_within times Behind (cell.Refs old) (cell.Refs given) h g = tt
changed_within times Without (cell.Num n) (cell.Num m) h g = numbers_within times Without n m h g
changed_within times Without (cell.Picks old) (cell.Picks given) h g = tt
changed_within times Without (cell.Refs old) (cell.Refs given) h g = tt
changed_within times change old given h g = given_within times given g
