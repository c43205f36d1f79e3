-- How the code's values are seen, and what its calls give.
use Rattle.std.specs.Prelude.{◌≡◌, ◌≢◌, ℕ, List, map, Option, Some, None, Result, MatchResult, option_map}
use Rattle.std.specs.Borrow.{Bor}
use Rattle.std.specs.Option.{option_copied}
use Rattle.pocket_words.specs.Scan as scan
use Rattle.pocket_words.specs.declared.command.WordFault.{WordFault}
use Rattle.pocket_words.specs.declared.command.WordFault.TheVariants.{BadWords, Memory}
use Rattle.pocket_words.specs.declared.scan.Setting.{Setting}

-- what a call gives: the definition's answer, that the words are bad exactly where it has none, or that memory is wanting
abbrev pub GivesAs : {A B : Type 0} → (A → B) → Result A WordFault → Option B → Type 0
GivesAs seen result answer = MatchResult result (λ x. answer ≡ Some (seen x)) (λ fault. fault ≢ Memory → (fault ≡ BadWords) × (answer ≡ None))

abbrev pub Gives : {A : Type 0} → Result A WordFault → Option A → Type 0
Gives = GivesAs (λ x. x)

abbrev pub option_twice_copied : {A : Type 0} → Option (Option (Bor A)) → Option (Option A)
option_twice_copied = option_map option_copied

abbrev pub setting_of : Setting → scan.Setting
setting_of s = record { name = s.name.now; value = s.value.now }

-- a scan: the options so far, and the name that waits for its value
abbrev pub scan_of : List Setting → Option (Bor (List ℕ)) → scan.Scan
scan_of settings waiting = record { settings = map setting_of settings; waiting = option_copied waiting }

-- where a scan stands after a word, with these options
abbrev pub Scans : List Setting → Result (Option (Bor (List ℕ))) WordFault → Option scan.Scan → Type 0
Scans settings = GivesAs (scan_of settings)
