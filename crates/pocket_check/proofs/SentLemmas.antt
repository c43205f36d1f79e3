-- The cells of a record with what a body sends fit their fields, but for a number's size.
use Rattle.std.proofs.Common.{◌≡◌, ◌≢◌, ℕ, zero, suc, ℤ, ◌||◌, Bool, true, false, List, [], ◌∷◌, ◌++◌, map, filter, fold, zip, filter_map, Option, Some, None, Ok, IfSome, IsTrue, All, AllPairs, option_map, if◌then◌else◌, refl, sym, subst, ◌∙◌, arith}
use Rattle.std.specs.List.{AllZip}
use Rattle.std.specs.Option.{option_map_or}
use Rattle.std.specs.Str.{bytes_eq}
use Rattle.std.proofs.lemmas.Bool.{cond-false, cond-true, true≢false}
use Rattle.std.proofs.lemmas.List.Elements.{All-append, All-cons, All-head, All-nil, All-tail}
use Rattle.std.proofs.lemmas.Option.{none-some, same_Some}
use Rattle.pocket_types.specs.Chains.{◌>>=◌, each}
use Rattle.pocket_types.specs.Kinds.{is_multiple}
use Rattle.pocket_types.specs.Profile.{IsProfiled}
use Rattle.pocket_types.specs.Sound.{AllFit, IsCellTree, IsItem, IsSoundCollection}
use Rattle.pocket_types.specs.declared.json.Jv.{Jv}
use Rattle.pocket_types.specs.declared.json.Jv.TheOpen as jv
use Rattle.pocket_types.specs.declared.json.Jv.TheOpen.{Jv-F}
use Rattle.pocket_types.specs.declared.json.Jv.TheViews.{out-Jv}
use Rattle.pocket_types.specs.declared.json.Member.{Member}
use Rattle.pocket_types.specs.declared.records.Cell.{Cell}
use Rattle.pocket_types.specs.declared.records.Cell.TheVariants as cell
use Rattle.pocket_types.specs.declared.records.Collection.{Collection}
use Rattle.pocket_types.specs.declared.records.Field.{Field}
use Rattle.pocket_types.specs.declared.records.Kind.{Kind}
use Rattle.pocket_types.specs.declared.records.Kind.TheVariants as kind
use Rattle.pocket_types.specs.declared.requests.Caller.{Caller}
use Rattle.pocket_types.specs.declared.requests.Sent.{Sent}
use Rattle.pocket_rows.specs.Cells.{AreShallow, value_under}
use Rattle.pocket_rows.specs.FieldReading.{members_in}
use Rattle.pocket_rows.proofs.FieldSoundness.{value_shallow}
use Rattle.pocket_rows.proofs.RecLemmas.{map_shallow}
use Rattle.pocket_meaning.specs.Related.{sent_for}
use Rattle.pocket_tables.specs.Worlds.{Suits, shape_of, type_of_kind}
use Rattle.pocket_tables.proofs.KeyLemmas.{key_false, key_true}
use Rattle.pocket_check.specs.Bodies.{all_changes, cell_changed, change_under, field_sent, has_key, is_ignored, keyed, keys_of, members_sent, read_change, sent_by, sent_fields, sent_over, with_sent}
use Rattle.pocket_check.specs.Cells.{cell_of}
use Rattle.pocket_check.specs.declared.change.Change.{Change}
use Rattle.pocket_check.specs.declared.change.Change.TheVariants.{Becomes, Before, Behind, Without}
use Rattle.pocket_check.specs.declared.fault.CheckFault.TheVariants.{BadBody, BadValue}
use Rattle.pocket_check.proofs.AnswerLemmas.{both_ok, each_all, map_some, same_ok, some_all, was_there}
use Rattle.pocket_check.proofs.GivenLemmas.{AlmostFits, almost, cell_fine, layer_of}
use Rattle.pocket_check.proofs.IdLemmas.{HasIdForm}
use Rattle.pocket_check.proofs.HeldLemmas.{held_once, held_without}

-- ---- changes

-- a change that a field of this kind may have: where one item may stand, the value given alone
abbrev pub MayChange : Kind → Change → Type 0
MayChange (kind.Number min max) how = Unit {0}
MayChange k Becomes = Unit {0}
MayChange k how = IsTrue (is_multiple k)

-- a cell without items or a number
abbrev IsPlain : Cell → Type 0
IsPlain (cell.Num n) = ⊥
IsPlain (cell.Picks items) = ⊥
IsPlain (cell.Refs ids) = ⊥
IsPlain c = Unit {0}

-- in the place of which what is given stands
plain_becomes : (how : Change) (old given : Cell) → IsPlain old → cell_changed how old given ≡ given
plain_becomes how (cell.Num n) given plain = absurd plain
plain_becomes how (cell.Picks items) given plain = absurd plain
plain_becomes how (cell.Refs ids) given plain = absurd plain
plain_becomes Becomes old given plain = refl
plain_becomes Before old given plain = refl
plain_becomes Behind old given plain = refl
plain_becomes Without old given plain = refl

number_fits : (min max : Option ℤ) (how : Change) (old given : Cell) → AlmostFits (kind.Number min max) old → AlmostFits (kind.Number min max) given
    → AlmostFits (kind.Number min max) (cell_changed how old given)
number_fits min max Becomes old given h g = g
number_fits min max Before (cell.Num n) (cell.Num m) h g = tt
number_fits min max Behind (cell.Num n) (cell.Num m) h g = tt
number_fits min max Without (cell.Num n) (cell.Num m) h g = tt
number_fits min max how (cell.Num n) given h g = absurd g
number_fits min max how old given h g = absurd h

picks_fit : (values : List (List ℕ)) (most : ℕ) (how : Change) (old given : Cell) → MayChange (kind.Select values most) how
    → AlmostFits (kind.Select values most) old → AlmostFits (kind.Select values most) given → AlmostFits (kind.Select values most) (cell_changed how old given)
picks_fit values most Becomes old given may h g = g
picks_fit values most Before (cell.Picks xs) (cell.Picks ys) may h g = held_once IsItem (kind.Select values most) (ys ++ xs) may (All-append IsItem ys xs g.0 h.0)
picks_fit values most Behind (cell.Picks xs) (cell.Picks ys) may h g = held_once IsItem (kind.Select values most) (xs ++ ys) may (All-append IsItem xs ys h.0 g.0)
picks_fit values most Without (cell.Picks xs) (cell.Picks ys) may h g = held_without IsItem (kind.Select values most) xs ys h
picks_fit values most how (cell.Picks xs) given may h g = absurd g
picks_fit values most how old given may h g = absurd h

refs_fit : (target : List ℕ) (most : ℕ) (cascade : Bool) (how : Change) (old given : Cell) → MayChange (kind.Relation target most cascade) how
    → AlmostFits (kind.Relation target most cascade) old → AlmostFits (kind.Relation target most cascade) given
    → AlmostFits (kind.Relation target most cascade) (cell_changed how old given)
refs_fit target most cascade Becomes old given may h g = g
refs_fit target most cascade Before (cell.Refs xs) (cell.Refs ys) may h g =
    held_once HasIdForm (kind.Relation target most cascade) (ys ++ xs) may (All-append HasIdForm ys xs g.0 h.0)
refs_fit target most cascade Behind (cell.Refs xs) (cell.Refs ys) may h g =
    held_once HasIdForm (kind.Relation target most cascade) (xs ++ ys) may (All-append HasIdForm xs ys h.0 g.0)
refs_fit target most cascade Without (cell.Refs xs) (cell.Refs ys) may h g = held_without HasIdForm (kind.Relation target most cascade) xs ys h
refs_fit target most cascade how (cell.Refs xs) given may h g = absurd g
refs_fit target most cascade how old given may h g = absurd h

plain_fits : (k : Kind) (how : Change) (old given : Cell) → IsPlain old → AlmostFits k given → AlmostFits k (cell_changed how old given)
plain_fits k how old given plain g = subst (AlmostFits k) (sym (plain_becomes how old given plain)) g

changed_fits : (k : Kind) (how : Change) (old given : Cell) → MayChange k how → AlmostFits k old → AlmostFits k given → AlmostFits k (cell_changed how old given)
changed_fits (kind.Text min max) how (cell.Text t) given may h g = plain_fits (kind.Text min max) how (cell.Text t) given tt g
changed_fits (kind.Number min max) how old given may h g = number_fits min max how old given h g
changed_fits kind.Flag how (cell.Flag b) given may h g = plain_fits kind.Flag how (cell.Flag b) given tt g
changed_fits (kind.Date min max) how (cell.Date d) given may h g = plain_fits (kind.Date min max) how (cell.Date d) given tt g
changed_fits (kind.Select values most) how old given may h g = picks_fit values most how old given may h g
changed_fits (kind.Json max) how (cell.Json tree) given may h g = plain_fits (kind.Json max) how (cell.Json tree) given tt g
changed_fits (kind.Relation target most cascade) how old given may h g = refs_fit target most cascade how old given may h g
changed_fits k how old given may h g = absurd h

-- a change that the field may have, by a cell that almost fits
abbrev IsGiven : Field → Change × Cell → Type 0
IsGiven f y = MayChange f.kind y.0 × AlmostFits f.kind y.1

all_changed : (f : Field) (old : Cell) (changes : List (Change × Cell)) → AlmostFits f.kind old → All (IsGiven f) changes
    → AlmostFits f.kind (fold (λ now y. cell_changed y.0 now y.1) old changes)
all_changed f old [] h all = h
all_changed f old (y ∷ changes) h all =
    let here = All-head (IsGiven f) y changes all in
    all_changed f (cell_changed y.0 old y.1) changes (changed_fits f.kind y.0 old y.1 here.0 h here.1) (All-tail (IsGiven f) y changes all)

-- ---- keys

abbrev IsKey : Kind → List ℕ × Change → Type 0
IsKey k x = MayChange k x.1

or_no : (b : Bool) → (b || false) ≡ true → b ≡ true
or_no true h = refl
or_no false h = absurd (true≢false (sym h))

-- a field has keys only for changes that it may have
may_from : (k : Kind) (how : Change) → has_key k how ≡ true → MayChange k how
may_from (kind.Number min max) how h = tt
may_from k Becomes h = tt
may_from k Before h = h
may_from (kind.Text min max) Behind h = absurd (true≢false (sym h))
may_from kind.Flag Behind h = absurd (true≢false (sym h))
may_from (kind.Date min max) Behind h = absurd (true≢false (sym h))
may_from (kind.Select values most) Behind h = or_no (is_multiple (kind.Select values most)) h
may_from (kind.Json max) Behind h = absurd (true≢false (sym h))
may_from (kind.Relation target most cascade) Behind h = or_no (is_multiple (kind.Relation target most cascade)) h
may_from (kind.Text min max) Without h = absurd (true≢false (sym h))
may_from kind.Flag Without h = absurd (true≢false (sym h))
may_from (kind.Date min max) Without h = absurd (true≢false (sym h))
may_from (kind.Select values most) Without h = or_no (is_multiple (kind.Select values most)) h
may_from (kind.Json max) Without h = absurd (true≢false (sym h))
may_from (kind.Relation target most cascade) Without h = or_no (is_multiple (kind.Relation target most cascade)) h

keys_from : (k : Kind) (name : List ℕ) (changes : List Change) → All (IsKey k) (map (keyed name) (filter (has_key k) changes))
keys_from k name [] = All-nil (IsKey k)
keys_from k name (how ∷ changes) = by (has_key k how) refl (keys_from k name changes)
  where
    by : (b : Bool) → has_key k how ≡ b → All (IsKey k) (map (keyed name) (filter (has_key k) changes))
        → All (IsKey k) (map (keyed name) (if b then how ∷ filter (has_key k) changes else filter (has_key k) changes))
    by true e rest = All-cons (IsKey k) (keyed name how) (map (keyed name) (filter (has_key k) changes)) (may_from k how e) rest
    by false e rest = rest

keys_fine : (f : Field) → All (IsKey f.kind) (keys_of f)
keys_fine f = keys_from f.kind f.name all_changes

asked_keys : (ignored : Bool) (f : Field) → All (IsKey f.kind) (if ignored then [] else keys_of f)
asked_keys true f = All-nil (IsKey f.kind)
asked_keys false f = keys_fine f

-- ---- what stands under keys

-- a change that the field may have, by a tree that fits into a cell
abbrev IsAsked : Field → Change × Jv → Type 0
IsAsked f x = MayChange f.kind x.0 × IsCellTree x.1

asked : (f : Field) (ms : List Member) → AreShallow ms → (x : List ℕ × Change) → IsKey f.kind x → IfSome (change_under ms x) (IsAsked f)
asked f ms h x may = map_some (λ tree. (x.1, tree)) (value_under x.0 ms) IsCellTree (IsAsked f) (value_shallow x.0 ms h) (λ tree fine. (may, fine))

change_read : (f : Field) (x : Change × Jv) (y : Change × Cell) → IsAsked f x → read_change f x ≡ Ok y → IsGiven f y
change_read f x y h e =
    let found = was_there (option_map (λ given. (x.0, given)) (cell_of f.kind x.1)) (BadValue f.name) y e in
    subst (λ o. IfSome o (IsGiven f)) found
    (map_some (λ given. (x.0, given)) (cell_of f.kind x.1) (AlmostFits f.kind) (IsGiven f) (cell_fine f.kind x.1 h.1) (λ given fine. (h.0, fine)))

-- ---- a field

-- what is sent for a field, with a cell that almost fits
abbrev IsOf : Field → Sent → Type 0
IsOf f s = (s.field ≡ f.name) × AlmostFits f.kind s.cell

sent_by_fine : (f : Field) (old : Cell) (changes : List (Change × Cell)) → AlmostFits f.kind old → All (IsGiven f) changes → IfSome (sent_by f old changes) (IsOf f)
sent_by_fine f old [] h all = tt
sent_by_fine f old (y ∷ changes) h all = (refl, all_changed f old (y ∷ changes) h all)

field_fine : (who : Caller) (ms : List Member) (f : Field) (old : Cell) (found : Option Sent) → AreShallow ms → AlmostFits f.kind old
    → field_sent who ms (f, old) ≡ Ok found → IfSome found (IsOf f)
field_fine who ms f old found shallow h e =
    let keys = if is_ignored who f then [] else keys_of f in
    let x = both_ok (each (read_change f) (filter_map (change_under ms) keys)) (λ changes. Ok (sent_by f old changes)) found e in
    let trees = some_all (change_under ms) (IsKey f.kind) (IsAsked f) (asked f ms shallow) keys (asked_keys (is_ignored who f) f) in
    let given = each_all (read_change f) (IsAsked f) (IsGiven f) (change_read f) (filter_map (change_under ms) keys) x.0 trees x.1 in
    subst (λ o. IfSome o (IsOf f)) (same_ok (sent_by f old x.0) found x.2) (sent_by_fine f old x.0 h given)

-- ---- all fields

-- what was found for a field
abbrev IsFound : Field → Option Sent → Type 0
IsFound f found = IfSome found (IsOf f)

fields_fine : (who : Caller) (ms : List Member) (fields : List Field) (old : List Cell) (found : List (Option Sent)) → AreShallow ms → AllFit fields old
    → each (field_sent who ms) (zip fields old) ≡ Ok found → AllZip IsFound fields found
fields_fine who ms [] [] found shallow h e = subst (AllZip IsFound []) (same_ok [] found e) tt
fields_fine who ms [] (c ∷ cells) found shallow h e = absurd h
fields_fine who ms (f ∷ fields) [] found shallow h e = absurd h
fields_fine who ms (f ∷ fields) (c ∷ cells) found shallow h e =
    let first = both_ok (field_sent who ms (f, c)) (λ y. each (field_sent who ms) (zip fields cells) >>= λ ys. Ok (y ∷ ys)) found e in
    let rest = both_ok (each (field_sent who ms) (zip fields cells)) (λ ys. Ok (first.0 ∷ ys)) found first.2 in
    subst (AllZip IsFound (f ∷ fields)) (same_ok (first.0 ∷ rest.0) found rest.2)
    (field_fine who ms f c first.0 shallow (almost f.kind c h.0) first.1, fields_fine who ms fields cells rest.0 shallow h.1 rest.1)

abbrev there : List (Option Sent) → List Sent
there found = filter_map (λ x. x) found

-- among what was found for fields of other names there is none of this name
none_named : (name : List ℕ) (fields : List Field) (found : List (Option Sent)) → All (λ g. name ≢ g.name) fields → AllZip IsFound fields found
    → sent_for (there found) name ≡ None
none_named name [] [] other h = refl
none_named name [] (x ∷ found) other h = absurd h
none_named name (f ∷ fields) [] other h = absurd h
none_named name (f ∷ fields) (None ∷ found) other h = none_named name fields found (All-tail (λ g. name ≢ g.name) f fields other) h.1
none_named name (f ∷ fields) (Some s ∷ found) other h =
    let differs : bytes_eq s.field name ≡ false = key_false s.field name (λ e. All-head (λ g. name ≢ g.name) f fields other (sym e ∙ h.0.0)) in
    cond-false (bytes_eq s.field name) (Some s) (sent_for (there found) name) differs ∙ none_named name fields found (All-tail (λ g. name ≢ g.name) f fields other) h.1

-- what was found for a field is found by its name
first_named : (f : Field) (x : Option Sent) (found : List (Option Sent)) → IsFound f x → sent_for (there found) f.name ≡ None → sent_for (there (x ∷ found)) f.name ≡ x
first_named f None found h later = later
first_named f (Some s) found h later = cond-true (bytes_eq s.field f.name) (Some s) (sent_for (there found) f.name) (key_true s.field f.name h.0)

-- and is passed over for another name
not_named : (f : Field) (x : Option Sent) (found : List (Option Sent)) (name : List ℕ) → IsFound f x → f.name ≢ name → sent_for (there (x ∷ found)) name ≡ sent_for (there found) name
not_named f None found name h other = refl
not_named f (Some s) found name h other = cond-false (bytes_eq s.field name) (Some s) (sent_for (there found) name) (key_false s.field name (λ e. other (sym h.0 ∙ e)))

-- cells that almost fit
abbrev pub AllAlmostFit : List Field → List Cell → Type 0
AllAlmostFit [] [] = Unit {0}
AllAlmostFit (f ∷ fields) (c ∷ cells) = AlmostFits f.kind c × AllAlmostFit fields cells
AllAlmostFit _ _ = ⊥

abbrev DifferByName : List Field → Type 0
DifferByName = AllPairs (λ f g. f.name ≢ g.name)

abbrev cell_sent : List Sent → Field × Cell → Cell
cell_sent sent x = option_map_or (λ s. s.cell) (sent_for sent x.0.name) x.1

cell_or_old : (f : Field) (x : Option Sent) (old : Cell) → IsFound f x → AlmostFits f.kind old → AlmostFits f.kind (option_map_or (λ s. s.cell) x old)
cell_or_old f None old h g = g
cell_or_old f (Some s) old h g = h.1

cells_fine : (fields : List Field) (old : List Cell) (found : List (Option Sent)) (sent : List Sent) → DifferByName fields → AllFit fields old → AllZip IsFound fields found
    → All (λ f. sent_for sent f.name ≡ sent_for (there found) f.name) fields → AllAlmostFit fields (map (cell_sent sent) (zip fields old))
cells_fine [] [] found sent differ fit h same = tt
cells_fine [] (c ∷ cells) found sent differ fit h same = absurd fit
cells_fine (f ∷ fields) [] found sent differ fit h same = absurd fit
cells_fine (f ∷ fields) (c ∷ cells) [] sent differ fit h same = absurd h
cells_fine (f ∷ fields) (c ∷ cells) (x ∷ found) sent differ fit h same =
    let later : All (λ g. f.name ≢ g.name) fields = λ k d l. differ zero (suc k) d (omega arith) (omega arith) in
    let here : sent_for sent f.name ≡ x =
    All-head (λ g. sent_for sent g.name ≡ sent_for (there (x ∷ found)) g.name) f fields same ∙ first_named f x found h.0 (none_named f.name fields found later h.1) in
    let rest : All (λ g. sent_for sent g.name ≡ sent_for (there found) g.name) fields = λ k d l.
    All-tail (λ g. sent_for sent g.name ≡ sent_for (there (x ∷ found)) g.name) f fields same k d l ∙ not_named f x found _ h.0 (later k d l) in (
      subst (λ o. AlmostFits f.kind (option_map_or (λ s. s.cell) o c)) (sym here) (cell_or_old f x c h.0 (almost f.kind c fit.0)),
      cells_fine fields cells found sent (λ i j d l m. differ (suc i) (suc j) d (omega arith) (omega arith)) fit.1 h.1 rest,
    )

-- ---- bodies

-- the members of a body of the profile fit into cells
pub members_shallow : (body : Jv) (ms : List Member) → IsProfiled body → members_sent body ≡ Ok ms → AreShallow ms
members_shallow body ms profile e = by (out-Jv body) refl (was_there (members_in (out-Jv body)) BadBody ms e)
  where
    by : (x : Jv-F Jv Member) → out-Jv body ≡ x → members_in x ≡ Some ms → AreShallow ms
    by (jv.Map others) is q =
        subst AreShallow (same_Some others ms q) (map_shallow others (subst IsProfiled (layer_of body (jv.Map others) is) profile))
    by x is q = absurd (none-some ms q)

sent_fine : (who : Caller) (c : Collection) (old : List Cell) (ms : List Member) (sent : List Sent) → IsSoundCollection c → AllFit c.fields old → AreShallow ms
    → sent_fields who c old ms ≡ Ok sent → AllAlmostFit c.fields (with_sent sent c old)
unfolding sent_fields
sent_fine who c old ms sent sound fit shallow e =
    let x = both_ok (each (field_sent who ms) (zip c.fields old)) (λ found. Ok (there found)) sent e in
    let found = fields_fine who ms c.fields old x.0 shallow fit x.1 in
    subst (λ s. AllAlmostFit c.fields (with_sent s c old)) (same_ok (there x.0) sent x.2)
    (cells_fine c.fields old x.0 (there x.0) sound.differ fit found (λ k d l. refl))

-- over cells that fit, what a body of the profile sends makes cells that almost fit
pub sent_almost : (who : Caller) (c : Collection) (old : List Cell) (body : Jv) (sent : List Sent) → IsSoundCollection c → AllFit c.fields old → IsProfiled body
    → sent_over who c old body ≡ Ok sent → AllAlmostFit c.fields (with_sent sent c old)
unfolding sent_over
sent_almost who c old body sent sound fit profile e =
    let x = both_ok (members_sent body) (sent_fields who c old) sent e in
    sent_fine who c old x.0 sent sound fit (members_shallow body x.0 profile x.1) x.2

-- ---- shapes

suits_almost : (f : Field) (c : Cell) → AlmostFits f.kind c → Suits (shape_of f) c
suits_almost f c fits = by f.kind c fits
  where
    by : (k : Kind) (c : Cell) → AlmostFits k c → Suits (record { name = f.name; type = type_of_kind k; several = is_multiple k }) c
    by (kind.Text min max) (cell.Text t) h = record { type = refl; few = λ e. omega arith }
    by (kind.Number min max) (cell.Num n) h = record { type = refl; few = λ e. omega arith }
    by kind.Flag (cell.Flag b) h = record { type = refl; few = λ e. omega arith }
    by (kind.Date min max) (cell.Date d) h = record { type = refl; few = λ e. omega arith }
    by (kind.Select values most) (cell.Picks items) h = record { type = refl; few = h.2 }
    by (kind.Json max) (cell.Json tree) h = record { type = refl; few = λ e. omega arith }
    by (kind.Relation target most cascade) (cell.Refs ids) h = record { type = refl; few = h.2 }
    by _ _ h = absurd h

pub shape_almost : (fields : List Field) (cells : List Cell) → AllAlmostFit fields cells → AllZip Suits (map shape_of fields) cells
shape_almost [] [] h = tt
shape_almost [] (c ∷ cells) h = absurd h
shape_almost (f ∷ fields) [] h = absurd h
shape_almost (f ∷ fields) (c ∷ cells) h = (suits_almost f c h.0, shape_almost fields cells h.1)
