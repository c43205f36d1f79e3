use Rattle.std.proofs.Common.{◌≡◌, map, drop}
use Rattle.std.specs.String.{string_bytes}
use Rattle.pocket_words.specs.Scan.{scanned, start}
use Rattle.pocket_words.specs.Seen.{scan_of}
use Rattle.pocket_words.proofs.scan.settings_of.Given as goal

-- what the words that are left make of the scan so far is what all words make
abbrev pub invariant-loop-word : goal.invariant-loop-word
invariant-loop-word l = scanned l.verb (scan_of l.settings.items l.waiting) (map string_bytes (drop l.word-index l.words))
    ≡ scanned l.verb start (map string_bytes l.words)
