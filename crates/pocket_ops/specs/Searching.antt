-- A match on its way: what it comes to, and why it ends.
use Rattle.std.specs.Prelude.{◌≡◌, ℕ, ◌+◌, ◌*◌, ◌<◌, ◌≤◌, List, [], ◌∷◌, ◌++◌, ◌||◌, Bool, true, false, length, drop, Option, Some, None, if◌then◌else◌}
use denote.Ref.{Bor}
use Rattle.pocket_ops.specs.declared.likeness.Piece.{Piece}
use Rattle.pocket_ops.specs.declared.likeness.Piece.TheVariants as piece
use Rattle.pocket_ops.specs.declared.likeness.Place.{Place}
use Rattle.pocket_ops.specs.declared.likeness.Search.{Search}
use Rattle.pocket_ops.specs.declared.likeness.Turn.{Turn}
use Rattle.pocket_ops.specs.declared.likeness.Turn.TheVariants as turn
use Rattle.pocket_ops.specs.Likeness.{pieces_of, matches, some_end, is_like}

-- a pattern's first piece with the rest behind it, or none where there is no piece
abbrev pub Splits : List ℕ → Option (Piece × Bor (List ℕ)) → Type 0
Splits pattern None = pieces_of pattern ≡ []
Splits pattern (Some (p, rest)) = (pieces_of pattern ≡ p ∷ pieces_of rest.now) × (length rest.now < length pattern)

-- the pieces of what is left of a pattern, which any run of bytes follows where it may stand anywhere
abbrev pub pieces_left : Bool → List ℕ → List Piece
pieces_left anywhere pattern = pieces_of pattern ++ (if anywhere then piece.Any ∷ [] else [])

-- whether what is left of a pattern matches what is left of a text
abbrev pub is_match : Bool → List ℕ → List ℕ → Bool
is_match anywhere pattern = matches (pieces_left anywhere pattern)

-- whether a test holds for what is left of a text behind some byte
abbrev pub some_later_end : (List ℕ → Bool) → List ℕ → Bool
some_later_end test [] = false
some_later_end test (b ∷ text) = some_end test text

-- whether it matches with a longer last run
abbrev pub is_later_match : Bool → Option Place → Bool
is_later_match anywhere None = false
is_later_match anywhere (Some place) = some_later_end (is_match anywhere place.pattern.now) place.text.now

-- what a search comes to
abbrev pub outcome : Search → Bool
outcome s = is_match s.anywhere s.here.pattern.now s.here.text.now || is_later_match s.anywhere s.back

-- wherever the last run ends, what follows it matches only if so many bytes later what is left of the pattern does
abbrev pub HasPassed : Bool → Place → Option Place → Type 0
HasPassed anywhere here None = Unit {0}
HasPassed anywhere here (Some back) =
    (k : ℕ) → is_match anywhere back.pattern.now (drop k back.text.now) ≡ true → is_match anywhere here.pattern.now (drop k here.text.now) ≡ true

-- what is left is no longer than the pattern, nor than what was left when the last run began
abbrev pub IsWithin : ℕ → Place → Option Place → Type 0
IsWithin bound here None = length here.pattern.now ≤ bound
IsWithin bound here (Some back) =
    (length here.pattern.now ≤ bound) × (length back.pattern.now ≤ bound) × (length here.text.now ≤ length back.text.now)

-- how often the last run may still grow
abbrev pub growth_left : Place → Option Place → ℕ
growth_left here None = length here.text.now + 1
growth_left here (Some back) = length back.text.now

-- how many turns may follow
abbrev pub turns_left : ℕ → Search → ℕ
turns_left bound s = growth_left s.here s.back * (bound + 1) + length s.here.pattern.now

-- a search goes on to another one that comes to the same and is nearer to its end
pub record GoesOn (expected : Bool) (old new : Search) : Type 0 where
  pub same : outcome new ≡ expected
  pub passed : HasPassed new.anywhere new.here new.back
  pub within : (bound : ℕ) → IsWithin bound old.here old.back → IsWithin bound new.here new.back
  pub nearer : (bound : ℕ) → IsWithin bound old.here old.back → turns_left bound new < turns_left bound old

-- what is known of a search on its way
pub record IsOnWay (text pattern : List ℕ) (s : Search) : Type 0 where
  pub same : outcome s ≡ is_like text pattern
  pub passed : HasPassed s.anywhere s.here s.back
  pub within : IsWithin (length pattern) s.here s.back

-- a turn answers what is expected, or leads on to it
abbrev pub LeadsTo : Bool → Search → Turn → Type 0
LeadsTo expected s (turn.Answer found) = found ≡ expected
LeadsTo expected s (turn.Next next) = GoesOn expected s next
