-- The history of a desk: its entries in order, each a work with the number of the pass that it came by.
use Rattle.std.specs.Prelude.{◌≡◌, ◌≢◌, ◌⊎◌, ℕ, Bool, true, false, ◌%◌, ◌==◌, ◌||◌, nat_lt, if◌then◌else◌, List, [], ◌∷◌, ◌++◌, map, filter, length, ⊤}
use Rattle.pocket_desk.specs.declared.view.Entry.{Entry}
use Rattle.pocket_desk.specs.declared.view.Numbers.{Numbers}

-- the list begins with the other
abbrev pub BeginsWith : {A : Type 0} → List A → List A → Type 0
BeginsWith {A} list beginning = (rest : List A) × (list ≡ beginning ++ rest)

-- the number is its own, or one that it may give away: every `stride`th one after its own
abbrev pub Owns : ℕ → ℕ → ℕ → Type 0
Owns number stride n = n % stride ≡ number

abbrev pub numbers : ℕ → ℕ → Numbers
numbers first stride = record { first = first; stride = stride }

-- the number is among these
abbrev pub is_among : List Numbers → ℕ → Bool
is_among [] n = false
is_among (these ∷ held) n = (n % these.stride == these.first) || is_among held n

abbrev pub Holds : List Numbers → ℕ → Type 0
Holds held n = is_among held n ≡ true

-- the list has the elements of the two, each of which keeps its order
abbrev pub IsInterleaved : {A : Type 0} → List A → List A → List A → Type 0
IsInterleaved one two [] = (one ≡ []) × (two ≡ [])
IsInterleaved {A} one two (x ∷ list) =
    ((rest : List A) × (one ≡ x ∷ rest) × IsInterleaved rest two list) ⊎ ((rest : List A) × (two ≡ x ∷ rest) × IsInterleaved one rest list)

module _ {W : Type 0} where
  abbrev pub entry : ℕ → W → Entry W
  entry pass work = record { pass = pass; work = work }

  abbrev pub works : List (Entry W) → List W
  works entries = map (λ (e : Entry W). e.work) entries

  -- the works that came by the pass of this number
  abbrev pub works_by : ℕ → List (Entry W) → List W
  works_by number entries = works (filter (λ (e : Entry W). e.pass == number) entries)

  abbrev pub longer : List (Entry W) → List (Entry W) → List (Entry W)
  longer one two = if nat_lt (length one) (length two) then two else one

  -- the works of this number are these, and no other number that its holder may give away has any
  abbrev pub HasExactly : ℕ → ℕ → List W → List (Entry W) → Type 0
  HasExactly number stride mine entries = (works_by number entries ≡ mine) × ((n : ℕ) → Owns number stride n → n ≢ number → works_by n entries ≡ [])

  -- the works that came by passes of these numbers
  abbrev pub works_held : List Numbers → List (Entry W) → List W
  works_held held entries = works (filter (λ (e : Entry W). is_among held e.pass) entries)

  -- none of the entries came by a pass of these numbers
  abbrev pub HasNoneOf : List Numbers → List (Entry W) → Type 0
  HasNoneOf held [] = ⊤
  HasNoneOf held (e ∷ entries) = (¬ (Holds held e.pass)) × HasNoneOf held entries
