-- What clap answers on the words of a scan.
use Rattle.std.proofs.Common.{◌≡◌, ◌∙◌, ◌||◌, ◌++◌, Bool, true, false, true≢false, inl, inr, Result, List, [], ◌∷◌, codes, Option, Some, None, refl, sym, ap, ap₂, subst}
use Rattle.std.specs.Prelude.{if◌then◌else◌, is_some, option_and_then, fold}
use Rattle.std.specs.List.{list_any}
use Rattle.std.specs.Str.{bytes_eq}
use Rattle.std.proofs.lemmas.Slice.Eq.{bytes_eq-Decides}
use Rattle.clap.specs.Faults.{check_fault, default_fault, defaults_fault, fault_of, is_simple_and_free, level_fault}
use Rattle.clap.specs.Kinds.{HasKind, Kinds, or_else}
use Rattle.clap.specs.Values.{kind_of}
use Rattle.clap.specs.declared.error.Error.{Error}
use Rattle.clap.specs.declared.error.kind.ErrorKind.TheVariants.{OutOfMemory}
use Rattle.clap.specs.Simple.{built, matches_of}
use Rattle.clap.specs.Walk.{Row, Rule, Text, finished, first_of, has_row, more_values, nothing_held, reading_by, one_of, walk, walk_from, with_default}
use Rattle.clap.specs.declared.parser.matches.ValueSource.TheVariants.{DefaultValue}
use Rattle.clap.proofs.FaultLemmas.{leaf_fault}
use Rattle.clap.proofs.OnLiterals.{clap_on_literals}
use Rattle.pocket_words.specs.Scan.{Setting, has_value, is_flag, is_named, settings_of}
use Rattle.pocket_words.specs.Seen.{Gives}
use Rattle.pocket_words.specs.Told.{app_for}
use Rattle.pocket_words.specs.Words.{has_flag, pipe_of, pipe_with, serve_of, serve_with, value_of}
use Rattle.pocket_words.specs.declared.command.Command.{Command}
use Rattle.pocket_words.specs.declared.command.WordFault.{WordFault}
use Rattle.pocket_words.specs.declared.command.Verb.{Verb}
use Rattle.pocket_words.specs.declared.command.Verb.TheVariants.{Pipe, Serve}
use Rattle.pocket_words.proofs.ClapLemmas.{Outcome, at_new_row, built_flag, built_option, has_row_of, no_flag, reads, rows_of, shape_of}

outcome : (verb : Verb) (words : List Text) (found : List Setting) → settings_of verb words ≡ Some found → Outcome verb found (walk_from nothing_held) words
outcome verb words found h = (reads verb words).0 [] [] None 0 1 refl refl found h

-- ---- nothing is wrong

past : (a b : Kinds) → a ≡ [] → or_else a b ≡ b
past a b e = ap (λ f. or_else f b) e

or_any : (b : Bool) → (b || true) ≡ true
or_any true = refl
or_any false = refl

quiet_option : (name : Text) (rows : List Row) → default_fault rows (built_option name) ≡ []
quiet_option name rows = rw (or_any (has_row name rows)) refl

quiet_flag : (name : Text) (rows : List Row) → default_fault rows (built_flag name) ≡ []
quiet_flag name rows = go (has_row name rows) refl
  where
    go : (b : Bool) → has_row name rows ≡ b → default_fault rows (built_flag name) ≡ []
    go true e = rw e refl
    go false e = rw e refl

none_quiet : (rows : List Row) → defaults_fault rows [] ≡ []
unfolding defaults_fault
none_quiet rows = refl

first_quiet : (a : Rule) (rest : List Rule) → ((rows : List Row) → default_fault rows a ≡ []) → ((rows : List Row) → defaults_fault rows rest ≡ []) → (rows : List Row) → defaults_fault rows (a ∷ rest) ≡ []
unfolding defaults_fault
first_quiet a rest first more rows = past _ _ (first rows) ∙ more (with_default rows a)

quiet : (verb : Verb) (rows : List Row) → defaults_fault rows (shape_of verb).rules ≡ []
quiet Pipe = first_quiet (built_option (codes "admin")) _ (quiet_option (codes "admin")) (first_quiet (built_option (codes "store")) _ (quiet_option (codes "store"))
    (first_quiet (built_flag (codes "sample")) [] (quiet_flag (codes "sample")) none_quiet))
quiet Serve = first_quiet (built_option (codes "admin")) _ (quiet_option (codes "admin")) (first_quiet (built_option (codes "store")) _ (quiet_option (codes "store"))
    (first_quiet (built_option (codes "port")) _ (quiet_option (codes "port")) (first_quiet (built_option (codes "workers")) _ (quiet_option (codes "workers"))
    (first_quiet (built_option (codes "connections")) [] (quiet_option (codes "connections")) none_quiet))))

unchecked : (verb : Verb) (rows : List Row) → check_fault (shape_of verb) rows false ≡ []
unchecked Pipe rows = refl
unchecked Serve rows = refl

level : (verb : Verb) (words : List Text) (found : List Setting) → Outcome verb found (walk_from nothing_held) words → level_fault (shape_of verb) [] nothing_held words false [] ≡ []
level verb words found o = past _ _ o.faultless ∙ past _ _ o.good ∙ past _ _ (quiet verb _) ∙ unchecked verb (finished (shape_of verb).rules (walk (shape_of verb).rules [] nothing_held words).held)

pub faultless : (verb : Verb) (words : List Text) (found : List Setting) → settings_of verb words ≡ Some found → fault_of (app_for verb) words ≡ []
faultless Pipe words found h = leaf_fault (built (app_for Pipe)) nothing_held words refl ∙ level Pipe words found (outcome Pipe words found h)
faultless Serve words found h = leaf_fault (built (app_for Serve)) nothing_held words refl ∙ level Serve words found (outcome Serve words found h)

-- ---- the rows at the end

default_option : (name : Text) (rows : List Row) → with_default rows (built_option name) ≡ rows
default_option name rows = go (has_row name rows) refl
  where
    go : (b : Bool) → has_row name rows ≡ b → with_default rows (built_option name) ≡ rows
    go true e = rw e refl
    go false e = rw e refl

ends : (verb : Verb) (words : List Text) (found : List Setting) → settings_of verb words ≡ Some found → matches_of (app_for verb) words ≡ fold with_default (rows_of verb found) (shape_of verb).rules
ends Pipe words found h = ap (λ r. fold with_default r (shape_of Pipe).rules) (outcome Pipe words found h).rows
ends Serve words found h = ap (λ r. fold with_default r (shape_of Serve).rules) (outcome Serve words found h).rows

serve_rows : (words : List Text) (found : List Setting) → settings_of Serve words ≡ Some found → matches_of (app_for Serve) words ≡ rows_of Serve found
serve_rows words found h = ends Serve words found h
    ∙ ap (λ r. with_default (with_default (with_default (with_default r (built_option (codes "store"))) (built_option (codes "port"))) (built_option (codes "workers"))) (built_option (codes "connections"))) (default_option (codes "admin") (rows_of Serve found))
    ∙ ap (λ r. with_default (with_default (with_default r (built_option (codes "port"))) (built_option (codes "workers"))) (built_option (codes "connections"))) (default_option (codes "store") (rows_of Serve found))
    ∙ ap (λ r. with_default (with_default r (built_option (codes "workers"))) (built_option (codes "connections"))) (default_option (codes "port") (rows_of Serve found))
    ∙ ap (λ r. with_default r (built_option (codes "connections"))) (default_option (codes "workers") (rows_of Serve found))
    ∙ default_option (codes "connections") (rows_of Serve found)

pipe_rows : (words : List Text) (found : List Setting) → settings_of Pipe words ≡ Some found → matches_of (app_for Pipe) words ≡ with_default (rows_of Pipe found) (built_flag (codes "sample"))
pipe_rows words found h = ends Pipe words found h
    ∙ ap (λ r. with_default (with_default r (built_option (codes "store"))) (built_flag (codes "sample"))) (default_option (codes "admin") (rows_of Pipe found))
    ∙ ap (λ r. with_default r (built_flag (codes "sample"))) (default_option (codes "store") (rows_of Pipe found))

-- ---- what is read of them

first_is : (verb : Verb) (name : Text) → is_flag verb name ≡ false → (found : List Setting) → first_of name (rows_of verb found) ≡ value_of name found
first_is verb name plain [] = refl
first_is verb name plain (s ∷ rest) = go (bytes_eq s.name name) refl (first_is verb name plain rest)
  where
    go : (b : Bool) → bytes_eq s.name name ≡ b → first_of name (rows_of verb rest) ≡ value_of name rest → first_of name (rows_of verb (s ∷ rest)) ≡ value_of name (s ∷ rest)
    go true e more =
        let is : is_flag verb s.name ≡ false = ap (is_flag verb) ((bytes_eq-Decides s.name name).0 e) ∙ plain in
        rw (e, is) refl
    go false e more = rw e more

missed : (name : Text) (rows : List Row) (last : Row) → bytes_eq last.id name ≡ false → first_of name (rows ++ last ∷ []) ≡ first_of name rows
missed name [] last e = rw e refl
missed name (r ∷ rows) last e = go (bytes_eq r.id name) refl (missed name rows last e)
  where
    go : (b : Bool) → bytes_eq r.id name ≡ b → first_of name (rows ++ last ∷ []) ≡ first_of name rows → first_of name (r ∷ rows ++ last ∷ []) ≡ first_of name (r ∷ rows)
    go true h more = rw h refl
    go false h more = rw h more

abbrev default_row : Row
default_row = record { id = codes "sample"; values = codes "false" ∷ []; count = None; source = Some DefaultValue; reading = reading_by (built_flag (codes "sample")) }

default_flag : (rows : List Row) → has_row (codes "sample") rows ≡ false → with_default rows (built_flag (codes "sample")) ≡ rows ++ default_row ∷ []
default_flag rows e = rw e (at_new_row (codes "sample") (more_values DefaultValue (codes "false" ∷ [])) (default_row ∷ []) rows e)

default_missed : (name : Text) → bytes_eq (codes "sample") name ≡ false → (rows : List Row) → first_of name (with_default rows (built_flag (codes "sample"))) ≡ first_of name rows
default_missed name other rows = go (has_row (codes "sample") rows) refl
  where
    go : (b : Bool) → has_row (codes "sample") rows ≡ b → first_of name (with_default rows (built_flag (codes "sample"))) ≡ first_of name rows
    go true e = rw e refl
    go false e = ap (first_of name) (default_flag rows e) ∙ missed name rows default_row other

pub serve_value : (words : List Text) (found : List Setting) → settings_of Serve words ≡ Some found → (name : Text) → has_value Serve name ≡ true → first_of name (matches_of (app_for Serve) words) ≡ value_of name found
serve_value words found h name valued = ap (first_of name) (serve_rows words found h) ∙ first_is Serve name (no_flag Serve name valued) found

pub pipe_value : (words : List Text) (found : List Setting) → settings_of Pipe words ≡ Some found → (name : Text) → has_value Pipe name ≡ true → bytes_eq (codes "sample") name ≡ false
    → first_of name (matches_of (app_for Pipe) words) ≡ value_of name found
pipe_value words found h name valued other = ap (first_of name) (pipe_rows words found h) ∙ default_missed name other (rows_of Pipe found) ∙ first_is Pipe name (no_flag Pipe name valued) found

-- ---- the flag

abbrev truth : Bool → Text
truth b = if b then codes "true" else codes "false"

flag_there : (found : List Setting) → list_any (is_named (codes "sample")) found ≡ true → one_of (codes "sample") (rows_of Pipe found) ≡ Some (codes "true")
flag_there [] h = absurd (true≢false (sym h))
flag_there (s ∷ rest) h = go (bytes_eq s.name (codes "sample")) refl (flag_there rest) h
  where
    go : (b : Bool) → bytes_eq s.name (codes "sample") ≡ b → (list_any (is_named (codes "sample")) rest ≡ true → one_of (codes "sample") (rows_of Pipe rest) ≡ Some (codes "true"))
        → (b || list_any (is_named (codes "sample")) rest) ≡ true → one_of (codes "sample") (rows_of Pipe (s ∷ rest)) ≡ Some (codes "true")
    go true e more h = rw e refl
    go false e more h = rw e (more h)

last_one : (name : Text) (rows : List Row) (last : Row) → has_row name rows ≡ false → bytes_eq last.id name ≡ true → one_of name (rows ++ last ∷ []) ≡ one_of name (last ∷ [])
last_one name [] last fresh e = refl
last_one name (r ∷ rows) last fresh e = go (bytes_eq r.id name) refl (λ h. last_one name rows last h e) fresh
  where
    go : (b : Bool) → bytes_eq r.id name ≡ b → (has_row name rows ≡ false → one_of name (rows ++ last ∷ []) ≡ one_of name (last ∷ [])) → (b || has_row name rows) ≡ false
        → one_of name (r ∷ rows ++ last ∷ []) ≡ one_of name (last ∷ [])
    go true h more f = absurd (true≢false f)
    go false h more f = rw h (more f)

pub pipe_flag : (words : List Text) (found : List Setting) → settings_of Pipe words ≡ Some found → one_of (codes "sample") (matches_of (app_for Pipe) words) ≡ Some (truth (list_any (is_named (codes "sample")) found))
pipe_flag words found h = ap (one_of (codes "sample")) (pipe_rows words found h) ∙ go (list_any (is_named (codes "sample")) found) refl
  where
    go : (b : Bool) → list_any (is_named (codes "sample")) found ≡ b → one_of (codes "sample") (with_default (rows_of Pipe found) (built_flag (codes "sample"))) ≡ Some (truth b)
    go true e =
        let there : has_row (codes "sample") (rows_of Pipe found) ≡ true = has_row_of Pipe (codes "sample") found ∙ e in
        rw there (flag_there found e)
    go false e =
        let fresh : has_row (codes "sample") (rows_of Pipe found) ≡ false = has_row_of Pipe (codes "sample") found ∙ e in
        ap (one_of (codes "sample")) (default_flag (rows_of Pipe found) fresh) ∙ last_one (codes "sample") (rows_of Pipe found) default_row fresh refl

-- ---- the commands

-- the flag that is read is the flag that stands
read_flag : (b read : Bool) (text : Option Text) → text ≡ Some (truth b) → (text ≡ Some (codes "true") → read ≡ true) → (text ≡ Some (codes "false") → read ≡ false) → read ≡ b
read_flag true read text is when unless = when is
read_flag false read text is when unless = unless is

pub pipe_read : (words : List Text) → is_some (settings_of Pipe words) ≡ true → (rows : List Row) → rows ≡ matches_of (app_for Pipe) words → (sample : Bool)
    → (one_of (codes "sample") rows ≡ Some (codes "true") → sample ≡ true) → (one_of (codes "sample") rows ≡ Some (codes "false") → sample ≡ false)
    → pipe_with (first_of (codes "admin") rows) (first_of (codes "store") rows) sample ≡ option_and_then pipe_of (settings_of Pipe words)
pipe_read words good rows is sample when unless = go (settings_of Pipe words) refl good
  where
    go : (found : Option (List Setting)) → settings_of Pipe words ≡ found → is_some found ≡ true → pipe_with (first_of (codes "admin") rows) (first_of (codes "store") rows) sample ≡ option_and_then pipe_of found
    go None e h = absurd (true≢false (sym h))
    go (Some found) e h =
        let admin : first_of (codes "admin") rows ≡ value_of (codes "admin") found = ap (first_of (codes "admin")) is ∙ pipe_value words found e (codes "admin") refl refl in
        let store : first_of (codes "store") rows ≡ value_of (codes "store") found = ap (first_of (codes "store")) is ∙ pipe_value words found e (codes "store") refl refl in
        let flag : sample ≡ has_flag (codes "sample") found = read_flag _ sample _ (ap (one_of (codes "sample")) is ∙ pipe_flag words found e) when unless in
        rw (admin, store, flag) refl

pub serve_read : (words : List Text) → is_some (settings_of Serve words) ≡ true → (rows : List Row) → rows ≡ matches_of (app_for Serve) words
    → serve_with (first_of (codes "admin") rows) (first_of (codes "port") rows) (first_of (codes "workers") rows) (first_of (codes "connections") rows) (first_of (codes "store") rows)
    ≡ option_and_then serve_of (settings_of Serve words)
serve_read words good rows is = go (settings_of Serve words) refl good
  where
    go : (found : Option (List Setting)) → settings_of Serve words ≡ found → is_some found ≡ true
        → serve_with (first_of (codes "admin") rows) (first_of (codes "port") rows) (first_of (codes "workers") rows) (first_of (codes "connections") rows) (first_of (codes "store") rows) ≡ option_and_then serve_of found
    go None e h = absurd (true≢false (sym h))
    go (Some found) e h =
        let admin : first_of (codes "admin") rows ≡ value_of (codes "admin") found = ap (first_of (codes "admin")) is ∙ serve_value words found e (codes "admin") refl in
        let port : first_of (codes "port") rows ≡ value_of (codes "port") found = ap (first_of (codes "port")) is ∙ serve_value words found e (codes "port") refl in
        let workers : first_of (codes "workers") rows ≡ value_of (codes "workers") found = ap (first_of (codes "workers")) is ∙ serve_value words found e (codes "workers") refl in
        let connections : first_of (codes "connections") rows ≡ value_of (codes "connections") found = ap (first_of (codes "connections")) is ∙ serve_value words found e (codes "connections") refl in
        let store : first_of (codes "store") rows ≡ value_of (codes "store") found = ap (first_of (codes "store")) is ∙ serve_value words found e (codes "store") refl in
        rw (admin, port, workers, connections, store) refl

pub all_good : (verb : Verb) (words : List Text) → is_some (settings_of verb words) ≡ true → fault_of (app_for verb) words ≡ []
all_good verb words good = go (settings_of verb words) refl good
  where
    go : (found : Option (List Setting)) → settings_of verb words ≡ found → is_some found ≡ true → fault_of (app_for verb) words ≡ []
    go None e h = absurd (true≢false (sym h))
    go (Some found) e h = faultless verb words found e

-- ---- the refusals

pub all_free : (verb : Verb) → is_simple_and_free (app_for verb) ≡ true
unfolding clap_on_literals
all_free Pipe = refl
all_free Serve = refl

-- where nothing is wrong, memory alone may be wanting
pub only_memory : (kinds : Kinds) (e : Error) → kinds ≡ [] → HasKind kinds e → kind_of e ≡ OutOfMemory
only_memory [] e none (inl is) = is
only_memory [] e none (inr x) = absurd x
only_memory (k ∷ ks) e none h = absurd cc

-- ---- what a call gives

pub pipe_given : (words : List Text) → is_some (settings_of Pipe words) ≡ true → (rows : List Row) → rows ≡ matches_of (app_for Pipe) words → (sample : Bool)
    → (one_of (codes "sample") rows ≡ Some (codes "true") → sample ≡ true) → (one_of (codes "sample") rows ≡ Some (codes "false") → sample ≡ false)
    → (admin store : Option Text) → admin ≡ first_of (codes "admin") rows → store ≡ first_of (codes "store") rows
    → (r : Result Command WordFault) → Gives r (pipe_with admin store sample) → Gives r (option_and_then pipe_of (settings_of Pipe words))
pipe_given words good rows is sample when unless admin store a s r gives =
    let same : pipe_with admin store sample ≡ option_and_then pipe_of (settings_of Pipe words) = ap₂ (λ x y. pipe_with x y sample) a s ∙ pipe_read words good rows is sample when unless in
    subst (λ answer. Gives r answer) same gives

pub serve_given : (words : List Text) → is_some (settings_of Serve words) ≡ true → (rows : List Row) → rows ≡ matches_of (app_for Serve) words
    → (admin port workers connections store : Option Text) → admin ≡ first_of (codes "admin") rows → port ≡ first_of (codes "port") rows → workers ≡ first_of (codes "workers") rows
    → connections ≡ first_of (codes "connections") rows → store ≡ first_of (codes "store") rows
    → (r : Result Command WordFault) → Gives r (serve_with admin port workers connections store) → Gives r (option_and_then serve_of (settings_of Serve words))
serve_given words good rows is admin port workers connections store a p w c s r gives =
    let same : serve_with admin port workers connections store ≡ option_and_then serve_of (settings_of Serve words) = ap₂ (λ x y. serve_with x y workers connections store) a p
    ∙ ap₂ (λ x y. serve_with (first_of (codes "admin") rows) (first_of (codes "port") rows) x y store) w c
    ∙ ap (λ x. serve_with (first_of (codes "admin") rows) (first_of (codes "port") rows) (first_of (codes "workers") rows) (first_of (codes "connections") rows) x) s
    ∙ serve_read words good rows is in
    subst (λ answer. Gives r answer) same gives
