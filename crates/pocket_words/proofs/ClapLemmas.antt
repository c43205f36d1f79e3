-- What clap makes of the words of a scan.
use Rattle.std.proofs.Common.{◌≡◌, ◌∙◌, ◌||◌, ℕ, Bool, true, false, true≢false, List, [], ◌∷◌, ◌++◌, map, codes, Option, Some, None, refl, sym, ap, ap₂, subst, append-nil}
use Rattle.std.specs.Prelude.{if◌then◌else◌, option_and_then}
use Rattle.std.specs.List.{fold, list_any}
use Rattle.std.specs.Str.{bytes_eq}
use Rattle.std.proofs.lemmas.Slice.Eq.{bytes_eq-Decides}
use Rattle.clap.specs.Lexer.{long_of, short_of}
use Rattle.clap.specs.Walk.{Text, Row, Rule, Walk, Waiting, idle, option, arg_by_id, arg_by_long, at_row, has_row, more_values, reading_by, settled_rows, walked, used, with_values, without}
use Rattle.clap.specs.Faults.{settle_fault, turn_fault, walk_fault}
use Rattle.clap.specs.Kinds.{or_else}
use Rattle.std.proofs.lemmas.List.{map-append}
use Rattle.clap.specs.Simple.{Shape, built, filled, with_index}
use Rattle.clap.specs.declared.builder.value_parser.Reading.{Reading}
use Rattle.clap.specs.declared.parser.matches.ValueSource.TheVariants.{CommandLine}
use Rattle.clap.proofs.OnLiterals.{clap_on_literals}
use Rattle.pocket_words.specs.Scan.{Setting, has_value, has_dash, is_flag, is_named, name_met, next_scan, option_met, scanned}
use Rattle.pocket_words.specs.Told.{option_rule, flag_rule, app_for}
use Rattle.pocket_words.specs.declared.command.Verb.{Verb}
use Rattle.pocket_words.specs.declared.command.Verb.TheVariants.{Pipe, Serve}

list_any-map : {X Y : Type 0} (p : Y → Bool) (f : X → Y) (xs : List X) → list_any (λ x. p (f x)) xs ≡ list_any p (map f xs)
list_any-map p f [] = refl
list_any-map p f (x ∷ xs) = ap (λ b. p (f x) || b) (list_any-map p f xs)

-- ---- rules

abbrev pub built_option : Text → Rule
built_option name = with_index 1 (filled (option_rule name))

abbrev pub built_flag : Text → Rule
built_flag name = with_index 1 (filled (flag_rule name))

abbrev pub rules_of : Verb → List Rule
rules_of verb = (built (app_for verb)).top.rules

-- a row without this id is changed at its end
pub at_new_row : (id : Text) (change : Row → List Row) (missing rows : List Row) → has_row id rows ≡ false → at_row id change missing rows ≡ rows ++ missing
at_new_row id change missing [] fresh = refl
at_new_row id change missing (r ∷ rs) fresh = go (bytes_eq r.id id) (λ rest. at_new_row id change missing rs rest) refl fresh
  where
    go : (b : Bool) → (has_row id rs ≡ false → at_row id change missing rs ≡ rs ++ missing) → bytes_eq r.id id ≡ b → (b || has_row id rs) ≡ false → at_row id change missing (r ∷ rs) ≡ r ∷ rs ++ missing
    go true more e bad = absurd (true≢false bad)
    go false more e rest = rw e (ap (λ xs. r ∷ xs) (more rest))

-- ---- rows

abbrev pub row_of : Verb → Setting → Row
row_of verb s = record {
  id = s.name;
  values = (if is_flag verb s.name then codes "true" else s.value) ∷ [];
  count = None;
  source = Some CommandLine;
  reading = if is_flag verb s.name then reading_by (built_flag s.name) else reading_by (built_option s.name);
}

abbrev pub rows_of : Verb → List Setting → List Row
rows_of verb = map (row_of verb)

pub has_row_of : (verb : Verb) (name : Text) (settings : List Setting) → has_row name (rows_of verb settings) ≡ list_any (is_named name) settings
has_row_of verb name settings = sym (list_any-map (λ r. bytes_eq r.id name) (row_of verb) settings)

-- an option that has a row once more in its rows, as nothing stood for it
pub used_once : (name : Text) (how : Reading) (values : List Text) (rows : List Row) → has_row name rows ≡ false
    → with_values name how CommandLine values (without name rows) ≡ rows ++ record { id = name; values = values; count = None; source = Some CommandLine; reading = how } ∷ []
used_once name how values rows fresh =
    let gone : without name rows ≡ rows = at_new_row name (λ _. []) [] rows fresh ∙ append-nil rows in
    ap (with_values name how CommandLine values) gone ∙ at_new_row name (more_values CommandLine values) _ rows fresh

-- ---- names

-- what holds of each name of a command's options with values
pub each_valued : (verb : Verb) (P : Text → Type 0) → P (codes "admin") → P (codes "store") → P (codes "port") → P (codes "workers") → P (codes "connections")
    → (name : Text) → has_value verb name ≡ true → P name
each_valued verb P admin store port workers connections name h = go verb h
  where
    named : (known : Text) → P known → bytes_eq name known ≡ true → P name
    named known p e = subst P (sym ((bytes_eq-Decides name known).0 e)) p

    either : (a b : Bool) → (a ≡ true → P name) → (b ≡ true → P name) → (a || b) ≡ true → P name
    either true b first second e = first refl
    either false b first second e = second e

    go : (v : Verb) → has_value v name ≡ true → P name
    go Pipe e = either _ _ (named (codes "admin") admin) (named (codes "store") store) e
    go Serve e = either _ _ (either _ _ (either _ _ (either _ _ (named (codes "admin") admin) (named (codes "store") store)) (named (codes "port") port))
        (named (codes "workers") workers)) (named (codes "connections") connections) e

pub no_flag : (verb : Verb) (name : Text) → has_value verb name ≡ true → is_flag verb name ≡ false
no_flag verb name h = each_valued verb (λ n. is_flag verb n ≡ false) (go verb) (go2 verb) (go3 verb) (go4 verb) (go5 verb) name h
  where
    go : (v : Verb) → is_flag v (codes "admin") ≡ false
    go Pipe = refl
    go Serve = refl

    go2 : (v : Verb) → is_flag v (codes "store") ≡ false
    go2 Pipe = refl
    go2 Serve = refl

    go3 : (v : Verb) → is_flag v (codes "port") ≡ false
    go3 Pipe = refl
    go3 Serve = refl

    go4 : (v : Verb) → is_flag v (codes "workers") ≡ false
    go4 Pipe = refl
    go4 Serve = refl

    go5 : (v : Verb) → is_flag v (codes "connections") ≡ false
    go5 Pipe = refl
    go5 Serve = refl

-- ---- what clap finds of a name

pub record IsFound (verb : Verb) (name : Text) : Type 0 where
  pub long : arg_by_long (rules_of verb) name ≡ Some (built_option name)
  pub by_id : arg_by_id (rules_of verb) name ≡ Some (built_option name)

named : (verb : Verb) (name known : Text) → IsFound verb known → bytes_eq name known ≡ true → IsFound verb name
named verb name known there e = subst (IsFound verb) (sym ((bytes_eq-Decides name known).0 e)) there

either : {P : Type 0} (a b : Bool) → (a ≡ true → P) → (b ≡ true → P) → (a || b) ≡ true → P
either true b first second e = first refl
either false b first second e = second e

found_of : (verb : Verb) (name : Text) → has_value verb name ≡ true → IsFound verb name
unfolding clap_on_literals
found_of Pipe name h = either (bytes_eq name (codes "admin")) (bytes_eq name (codes "store"))
    (named Pipe name (codes "admin") (record { long = refl; by_id = refl })) (named Pipe name (codes "store") (record { long = refl; by_id = refl })) h
found_of Serve name h = either (bytes_eq name (codes "admin") || bytes_eq name (codes "store") || bytes_eq name (codes "port") || bytes_eq name (codes "workers")) (bytes_eq name (codes "connections"))
    (either (bytes_eq name (codes "admin") || bytes_eq name (codes "store") || bytes_eq name (codes "port")) (bytes_eq name (codes "workers"))
    (either (bytes_eq name (codes "admin") || bytes_eq name (codes "store")) (bytes_eq name (codes "port"))
    (either (bytes_eq name (codes "admin")) (bytes_eq name (codes "store"))
    (named Serve name (codes "admin") (record { long = refl; by_id = refl })) (named Serve name (codes "store") (record { long = refl; by_id = refl })))
    (named Serve name (codes "port") (record { long = refl; by_id = refl }))) (named Serve name (codes "workers") (record { long = refl; by_id = refl })))
    (named Serve name (codes "connections") (record { long = refl; by_id = refl })) h

flag_found : (verb : Verb) (name : Text) → is_flag verb name ≡ true → arg_by_long (rules_of verb) name ≡ Some (built_flag name)
unfolding clap_on_literals
flag_found Pipe name h = subst (λ n. arg_by_long (rules_of Pipe) n ≡ Some (built_flag n)) (sym ((bytes_eq-Decides name (codes "sample")).0 h)) refl
flag_found Serve name h = absurd (true≢false (sym h))

-- ---- steps

abbrev pub walk_at : List Row → Option (Text × List Text) → ℕ → Waiting → ℕ → Walk
walk_at rows pending skip waiting position =
    record { held = record { rows = rows; pending = pending; skip = skip }; waiting = waiting; position = position; is_trailing = false; stopped = None }

not_dashes : (word : Text) (p : Text × Option Text) → long_of word ≡ Some p → bytes_eq word (45 ∷ 45 ∷ []) ≡ false
not_dashes word p l = go (bytes_eq word (45 ∷ 45 ∷ [])) refl
  where
    go : (b : Bool) → bytes_eq word (45 ∷ 45 ∷ []) ≡ b → b ≡ false
    go false e = refl
    go true e =
        let is : word ≡ 45 ∷ 45 ∷ [] = (bytes_eq-Decides word (45 ∷ 45 ∷ [])).0 e in
        let none : None ≡ Some p = subst (λ w. long_of w ≡ Some p) is l in
        cc

-- `--name=value`
step_joined : (c : List Rule) (rows : List Row) (pending : Option (Text × List Text)) (skip position : ℕ) (word name v : Text) → long_of word ≡ Some (name, Some v)
    → arg_by_long c name ≡ Some (built_option name)
    → walked c [] (walk_at rows pending skip idle position) word ≡ walk_at (used (built_option name) (v ∷ []) (settled_rows c pending rows)) None skip idle position
unfolding walked
step_joined c rows pending skip position word name v l found = rw (l, not_dashes word _ l, found) refl

-- `--name`, whose value is the next word
step_waits : (c : List Rule) (rows : List Row) (pending : Option (Text × List Text)) (skip position : ℕ) (word name : Text) → long_of word ≡ Some (name, None)
    → arg_by_long c name ≡ Some (built_option name)
    → walked c [] (walk_at rows pending skip idle position) word ≡ walk_at (settled_rows c pending rows) (Some (name, [])) skip (option name) position
unfolding walked
step_waits c rows pending skip position word name l found = rw (l, not_dashes word _ l, found) refl

-- its value
step_value : (c : List Rule) (rows : List Row) (skip position : ℕ) (word name : Text) → long_of word ≡ None → short_of word ≡ None → bytes_eq word (45 ∷ 45 ∷ []) ≡ false
    → arg_by_id c name ≡ Some (built_option name) → bytes_eq name name ≡ true
    → walked c [] (walk_at rows (Some (name, [])) skip (option name) position) word ≡ walk_at rows (Some (name, word ∷ [])) skip idle position
unfolding walked
step_value c rows skip position word name l s d found same = rw (l, s, d, found, same) refl

-- a flag
step_flag : (c : List Rule) (rows : List Row) (pending : Option (Text × List Text)) (skip position : ℕ) (word name : Text) → long_of word ≡ Some (name, None)
    → arg_by_long c name ≡ Some (built_flag name)
    → walked c [] (walk_at rows pending skip idle position) word ≡ walk_at (used (built_flag name) [] (settled_rows c pending rows)) None skip idle position
unfolding walked
step_flag c rows pending skip position word name l found = rw (l, not_dashes word _ l, found) refl

-- ---- faults of steps

abbrev pub shape_of : Verb → Shape
shape_of verb = (built (app_for verb)).top

fault_joined : (s : Shape) (rows : List Row) (pending : Option (Text × List Text)) (skip position : ℕ) (word name v : Text) → long_of word ≡ Some (name, Some v)
    → arg_by_long s.rules name ≡ Some (built_option name) → settle_fault s.rules s.args_override_self (record { rows = rows; pending = pending; skip = skip }) ≡ []
    → has_row name (settled_rows s.rules pending rows) ≡ false
    → turn_fault s [] (walk_at rows pending skip idle position) word ≡ []
fault_joined s rows pending skip position word name v l found good fresh = rw (l, not_dashes word _ l, found, good, fresh) refl

fault_waits : (s : Shape) (rows : List Row) (pending : Option (Text × List Text)) (skip position : ℕ) (word name : Text) → long_of word ≡ Some (name, None)
    → arg_by_long s.rules name ≡ Some (built_option name) → settle_fault s.rules s.args_override_self (record { rows = rows; pending = pending; skip = skip }) ≡ []
    → turn_fault s [] (walk_at rows pending skip idle position) word ≡ []
fault_waits s rows pending skip position word name l found good = rw (l, not_dashes word _ l, found, good) refl

fault_value : (s : Shape) (rows : List Row) (skip position : ℕ) (word name : Text) → long_of word ≡ None → short_of word ≡ None → bytes_eq word (45 ∷ 45 ∷ []) ≡ false
    → turn_fault s [] (walk_at rows (Some (name, [])) skip (option name) position) word ≡ []
fault_value s rows skip position word name l h d = rw (l, h, d) refl

fault_flag : (s : Shape) (rows : List Row) (pending : Option (Text × List Text)) (skip position : ℕ) (word name : Text) → long_of word ≡ Some (name, None)
    → arg_by_long s.rules name ≡ Some (built_flag name) → settle_fault s.rules s.args_override_self (record { rows = rows; pending = pending; skip = skip }) ≡ []
    → has_row name (settled_rows s.rules pending rows) ≡ false
    → turn_fault s [] (walk_at rows pending skip idle position) word ≡ []
fault_flag s rows pending skip position word name l found good fresh = rw (l, not_dashes word _ l, found, good, fresh) refl

same_bytes : (name : Text) → bytes_eq name name ≡ true
same_bytes name = (bytes_eq-Decides name name).1 refl

-- a word that doesn't begin with `-` is no option
no_dash : (word : Text) → has_dash word ≡ false → (long_of word ≡ None) × (short_of word ≡ None) × (bytes_eq word (45 ∷ 45 ∷ []) ≡ false)
no_dash [] h = (refl, refl, refl)
no_dash (x ∷ v) h = (rw h refl, rw h refl, rw h refl)

pending_rows : (verb : Verb) (name word : Text) (rows : List Row) → arg_by_id (rules_of verb) name ≡ Some (built_option name)
    → settled_rows (shape_of verb).rules (Some (name, word ∷ [])) rows ≡ used (built_option name) (word ∷ []) rows
pending_rows verb name word rows found = rw found refl

pending_good : (verb : Verb) (name word : Text) (rows : List Row) (skip : ℕ) → arg_by_id (rules_of verb) name ≡ Some (built_option name) → has_row name rows ≡ false
    → settle_fault (shape_of verb).rules (shape_of verb).args_override_self (record { rows = rows; pending = Some (name, word ∷ []); skip = skip }) ≡ []
pending_good verb name word rows skip found fresh = rw (found, fresh) refl

some_injective : {A : Type 0} {x y : A} → Some x ≡ Some y → x ≡ y
some_injective e = cc

-- ---- the walk over the words of a scan

-- a walk from w over these words ends with the rows of these settings, and without a fault
pub record Outcome (verb : Verb) (found : List Setting) (w : Walk) (words : List Text) : Type 0 where
  pub rows : settled_rows (shape_of verb).rules (fold (walked (shape_of verb).rules []) w words).held.pending (fold (walked (shape_of verb).rules []) w words).held.rows ≡ rows_of verb found
  pub good : settle_fault (shape_of verb).rules (shape_of verb).args_override_self (fold (walked (shape_of verb).rules []) w words).held ≡ []
  pub faultless : walk_fault (shape_of verb) [] w words ≡ []

one_more : (verb : Verb) (found : List Setting) (w next : Walk) (word : Text) (rest : List Text) → walked (shape_of verb).rules [] w word ≡ next
    → turn_fault (shape_of verb) [] w word ≡ [] → Outcome verb found next rest → Outcome verb found w (word ∷ rest)
unfolding walk_fault
one_more verb found w next word rest step fault o = record {
  rows = subst (λ n. settled_rows (shape_of verb).rules (fold (walked (shape_of verb).rules []) n rest).held.pending (fold (walked (shape_of verb).rules []) n rest).held.rows ≡ rows_of verb found) (sym step) o.rows;
  good = subst (λ n. settle_fault (shape_of verb).rules (shape_of verb).args_override_self (fold (walked (shape_of verb).rules []) n rest).held ≡ []) (sym step) o.good;
  faultless = ap (λ f. or_else f (walk_fault (shape_of verb) [] (walked (shape_of verb).rules [] w word) rest)) fault ∙ ap (λ n. walk_fault (shape_of verb) [] n rest) step ∙ o.faultless;
}

-- one more option in the rows
fresh_row : (verb : Verb) (name : Text) (settings : List Setting) (rows : List Row) → rows ≡ rows_of verb settings → list_any (is_named name) settings ≡ false → has_row name rows ≡ false
fresh_row verb name settings rows is fresh = ap (has_row name) is ∙ has_row_of verb name settings ∙ fresh

added_option : (verb : Verb) (name v : Text) (settings : List Setting) (rows : List Row) → rows ≡ rows_of verb settings → has_value verb name ≡ true → list_any (is_named name) settings ≡ false
    → used (built_option name) (v ∷ []) rows ≡ rows_of verb (settings ++ record { name = name; value = v } ∷ [])
added_option verb name v settings rows is valued fresh =
    let row : row_of verb (record { name = name; value = v }) ≡ record { id = name; values = v ∷ []; count = None; source = Some CommandLine; reading = reading_by (built_option name) } = rw (no_flag verb name valued) refl in
    used_once name (reading_by (built_option name)) (v ∷ []) rows (fresh_row verb name settings rows is fresh)
    ∙ ap₂ (λ a b. a ++ b ∷ []) is (sym row) ∙ sym (map-append (row_of verb) settings (record { name = name; value = v } ∷ []))

added_flag : (verb : Verb) (name : Text) (settings : List Setting) (rows : List Row) → rows ≡ rows_of verb settings → is_flag verb name ≡ true → list_any (is_named name) settings ≡ false
    → used (built_flag name) [] rows ≡ rows_of verb (settings ++ record { name = name; value = [] } ∷ [])
added_flag verb name settings rows is flag fresh =
    let row : row_of verb (record { name = name; value = [] }) ≡ record { id = name; values = codes "true" ∷ []; count = None; source = Some CommandLine; reading = reading_by (built_flag name) } = rw flag refl in
    used_once name (reading_by (built_flag name)) (codes "true" ∷ []) rows (fresh_row verb name settings rows is fresh)
    ∙ ap₂ (λ a b. a ++ b ∷ []) is (sym row) ∙ sym (map-append (row_of verb) settings (record { name = name; value = [] } ∷ []))

abbrev IdleReads : Verb → List Text → Type 0
IdleReads verb words = (settings : List Setting) (rows : List Row) (pending : Option (Text × List Text)) (skip position : ℕ) → settled_rows (shape_of verb).rules pending rows ≡ rows_of verb settings
    → settle_fault (shape_of verb).rules (shape_of verb).args_override_self (record { rows = rows; pending = pending; skip = skip }) ≡ []
    → (found : List Setting) → scanned verb (record { settings = settings; waiting = None }) words ≡ Some found
    → Outcome verb found (walk_at rows pending skip idle position) words

abbrev AfterReads : Verb → List Text → Type 0
AfterReads verb words = (settings : List Setting) (rows : List Row) (skip position : ℕ) (name : Text) → rows ≡ rows_of verb settings → has_value verb name ≡ true
    → (found : List Setting) → scanned verb (record { settings = settings; waiting = Some name }) words ≡ Some found
    → Outcome verb found (walk_at rows (Some (name, [])) skip (option name) position) words

-- an option in a word
idle_step : (verb : Verb) (word : Text) (rest : List Text) → IdleReads verb rest → AfterReads verb rest → IdleReads verb (word ∷ rest)
unfolding scanned next_scan
idle_step verb word rest idles afters settings rows pending skip position is good found h = met (long_of word) refl h
  where
    joined : (name v : Text) → long_of word ≡ Some (name, Some v) → (a b : Bool) → has_value verb name ≡ a → list_any (is_named name) settings ≡ b
        → option_and_then (λ n. scanned verb n rest) (if a then (if b then None else Some (record { settings = settings ++ record { name = name; value = v } ∷ []; waiting = None })) else None) ≡ Some found → Outcome verb found (walk_at rows pending skip idle position) (word ∷ rest)
    joined name v l false b valued fresh h = absurd cc
    joined name v l true true valued fresh h = absurd cc
    joined name v l true false valued fresh h =
        let there = found_of verb name valued in
        let row = fresh_row verb name settings _ is fresh in
        one_more verb found _ _ word rest (step_joined (shape_of verb).rules rows pending skip position word name v l there.long)
        (fault_joined (shape_of verb) rows pending skip position word name v l there.long good row)
        (idles _ _ None skip position (added_option verb name v settings _ is valued fresh) refl found h)

    alone : (name : Text) → long_of word ≡ Some (name, None) → (flag valued fresh : Bool) → is_flag verb name ≡ flag → has_value verb name ≡ valued → list_any (is_named name) settings ≡ fresh
        → option_and_then (λ n. scanned verb n rest) (if flag then (if fresh then None else Some (record { settings = settings ++ record { name = name; value = [] } ∷ []; waiting = None }))
        else if valued then Some (record { settings = settings; waiting = Some name }) else None) ≡ Some found → Outcome verb found (walk_at rows pending skip idle position) (word ∷ rest)
    alone name l true v true isflag isvalued isfresh h = absurd cc
    alone name l true v false isflag isvalued isfresh h =
        let there = flag_found verb name isflag in
        let row = fresh_row verb name settings _ is isfresh in
        one_more verb found _ _ word rest (step_flag (shape_of verb).rules rows pending skip position word name l there)
        (fault_flag (shape_of verb) rows pending skip position word name l there good row)
        (idles _ _ None skip position (added_flag verb name settings _ is isflag isfresh) refl found h)
    alone name l false true fresh isflag isvalued isfresh h =
        let there = found_of verb name isvalued in
        one_more verb found _ _ word rest (step_waits (shape_of verb).rules rows pending skip position word name l there.long)
        (fault_waits (shape_of verb) rows pending skip position word name l there.long good)
        (afters settings _ skip position name is isvalued found h)
    alone name l false false fresh isflag isvalued isfresh h = absurd cc

    named : (name : Text) (v : Option Text) → long_of word ≡ Some (name, v) → option_and_then (λ n. scanned verb n rest) (name_met verb name v settings) ≡ Some found → Outcome verb found (walk_at rows pending skip idle position) (word ∷ rest)
    named name (Some v) l h = joined name v l (has_value verb name) (list_any (is_named name) settings) refl refl h
    named name None l h = alone name l (is_flag verb name) (has_value verb name) (list_any (is_named name) settings) refl refl refl h

    met : (l : Option (Text × Option Text)) → long_of word ≡ l → option_and_then (λ n. scanned verb n rest) (option_met verb l settings) ≡ Some found → Outcome verb found (walk_at rows pending skip idle position) (word ∷ rest)
    met None l h = absurd cc
    met (Some p) l h = named p.0 p.1 l h

-- a value in a word of its own
after_step : (verb : Verb) (word : Text) (rest : List Text) → IdleReads verb rest → AfterReads verb (word ∷ rest)
unfolding scanned next_scan
after_step verb word rest idles settings rows skip position name is valued found h = go (has_dash word) (list_any (is_named name) settings) refl refl h
  where
    go : (a b : Bool) → has_dash word ≡ a → list_any (is_named name) settings ≡ b
        → option_and_then (λ n. scanned verb n rest) (if a then None else if b then None else Some (record { settings = settings ++ record { name = name; value = word } ∷ []; waiting = None })) ≡ Some found
        → Outcome verb found (walk_at rows (Some (name, [])) skip (option name) position) (word ∷ rest)
    go true b dash fresh h = absurd cc
    go false true dash fresh h = absurd cc
    go false false dash fresh h =
        let there = found_of verb name valued in
        let row = fresh_row verb name settings rows is fresh in
        let plain = no_dash word dash in
        one_more verb found _ _ word rest (step_value (shape_of verb).rules rows skip position word name plain.0 plain.1 plain.2 there.by_id (same_bytes name))
        (fault_value (shape_of verb) rows skip position word name plain.0 plain.1 plain.2)
        (idles _ _ _ skip position (pending_rows verb name word rows there.by_id ∙ added_option verb name word settings rows is valued fresh) (pending_good verb name word rows skip there.by_id row) found h)

pub reads : (verb : Verb) (words : List Text) → IdleReads verb words × AfterReads verb words
unfolding scanned walk_fault
reads verb [] = (λ settings rows pending skip position is good found h. record { rows = is ∙ ap (rows_of verb) (some_injective h); good = good; faultless = refl }, λ settings rows skip position name is valued found h. absurd cc)
reads verb (word ∷ rest) = (idle_step verb word rest (reads verb rest).0 (reads verb rest).1, after_step verb word rest (reads verb rest).0)
