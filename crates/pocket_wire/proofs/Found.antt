-- What bytes are by their last byte.
use Rattle.std.proofs.Common.{◌≡◌, ◌≢◌, ◌⊎◌, inl, inr, ℕ, ◌+◌, ◌-◌, ◌≤◌, ◌<◌, List, [], ◌∷◌, ◌++◌, length, take, drop, get_or, refl, ap, sym, ◌∙◌, subst, arith, Bool, true, false, append_assoc, Option, None, Some, MatchOption, IfSome, IfNone}
use Rattle.std.specs.Prelude.{if◌then◌else◌, nat_lt, count_by}
use Rattle.std.proofs.lemmas.List.{take-take, take_all, append-nil, take-append-drop, take_more, length-take-le}
use Rattle.std.proofs.lemmas.Bool.{cases_lt}
use Rattle.std.proofs.lemmas.List.Sums.{count_by_more_no}
use Rattle.pocket_wire.specs.Blocks.{is_ended, is_line_feed, line_feeds, IsBlock, IsPartOfBlock, IsTooLong, IsUnfinished}
use Rattle.pocket_wire.specs.Searches.{IsFound, IsLookedThrough}
use Rattle.pocket_wire.specs.declared.block.Found.{Found}
use Rattle.pocket_wire.specs.declared.block.Found.TheVariants as found
use Rattle.pocket_wire.specs.declared.block.Search.{Search}
use Rattle.pocket_wire.proofs.Blocks.{feeds_stay, going_on}

no_feed : (b : ℕ) → b ≢ 10 → is_line_feed b ≡ false
no_feed b other = grind arith

-- more than 66 line feeds
pub too_many : (bytes : List ℕ) → IsPartOfBlock bytes → 66 < line_feeds bytes → IsTooLong bytes
too_many bytes part many = record { front = bytes; rest = []; bytes_are = sym (append-nil bytes); part = part; passes = inl many }

-- the end of a block
pub whole_block : (bytes : List ℕ) → IsPartOfBlock bytes → is_ended bytes ≡ true → length bytes ≤ 16384 → line_feeds bytes ≤ 66 → IsFound bytes (found.Block (length bytes))
whole_block bytes part ended few feeds =
    let block : IsBlock bytes = record { part = part; ended = ended; few = few; feeds = feeds } in
    (omega arith, subst IsBlock (sym (take_all (length bytes) bytes (omega arith))) block)

-- no end, and few line feeds
pub by_length : (bytes : List ℕ) (r : Option Found) → r ≡ (if nat_lt (length bytes) 16384 then None else Some found.TooLong) → IsPartOfBlock bytes
    → is_ended bytes ≡ false → line_feeds bytes ≤ 66 → length bytes ≤ 16384 → MatchOption r (IsUnfinished bytes) (IsFound bytes)
by_length bytes r e part going feeds few = by (nat_lt (length bytes) 16384) refl
  where
    by : (b : Bool) → nat_lt (length bytes) 16384 ≡ b → MatchOption r (IsUnfinished bytes) (IsFound bytes)
    by true t =
        let is : r ≡ None = e ∙ rw t refl in
        let less : length bytes < 16384 = grind arith in
        let whole : IsUnfinished bytes = record { part = part; going = going; few = less; feeds = feeds } in
        rw is whole
    by false t =
        let is : r ≡ Some found.TooLong = e ∙ rw t refl in
        let full : length bytes ≡ 16384 = grind arith in
        let long : IsTooLong bytes = record { front = bytes; rest = []; bytes_are = sym (append-nil bytes); part = part; passes = inr (full, going) } in
        rw is long

-- what a front has is found in the bytes
pub found_front : (bytes : List ℕ) (n : ℕ) (f : Found) → n ≤ length bytes → IsFound (take n bytes) f → IsFound bytes f
found_front bytes n (found.Block m) within (fits, block) =
    let size = length-take-le n bytes within in
    let low : m ≤ n = omega (arith, fits, size) in
    (omega (arith, low, within), subst IsBlock (take-take m n bytes low) block)
found_front bytes n found.TooLong within long =
    record {
      front = long.front;
      rest = long.rest ++ drop n bytes;
      bytes_are = sym (take-append-drop n bytes) ∙ ap (λ s. s ++ drop n bytes) long.bytes_are ∙ append_assoc long.front long.rest (drop n bytes);
      part = long.part;
      passes = long.passes;
    }

-- the same of what a look comes to
pub found_in : (bytes : List ℕ) (n : ℕ) (r : Option Found) (A : Type 0) → n ≤ length bytes → MatchOption r A (IsFound (take n bytes)) → IfSome r (IsFound bytes)
found_in bytes n None A within h = tt
found_in bytes n (Some f) A within h = found_front bytes n f within h

-- one byte behind few
pub few_bytes : (bytes : List ℕ) → 0 < length bytes → IsUnfinished (take (length bytes - 1) bytes) → length bytes ≤ 16384
few_bytes bytes some going =
    let size = length-take-le (length bytes - 1) bytes (omega arith) in
    omega (arith, size, going.few)

-- ---- the next byte is no line feed

module _ (bytes : List ℕ) (search : Search) (r : Option Found)
    (is : r ≡ (if nat_lt (search.at + 1) 16384 then None else Some found.TooLong))
    (within : search.at < length bytes) (looked : IsLookedThrough bytes search) (other : get_or bytes search.at 0 ≢ 10) where
  -- one byte more
  more : take (search.at + 1) bytes ≡ take search.at bytes ++ get_or bytes search.at 0 ∷ []
  more = take_more bytes search.at 0 within

  going : is_ended (take (search.at + 1) bytes) ≡ false
  going = ap is_ended more ∙ going_on (take search.at bytes) (get_or bytes search.at 0) other

  feeds : line_feeds (take (search.at + 1) bytes) ≤ 66
  feeds = subst (λ s. line_feeds s ≤ 66) (sym more) (feeds_stay (take search.at bytes) (get_or bytes search.at 0) other looked.going.feeds)

  size : length (take (search.at + 1) bytes) ≡ search.at + 1
  size = length-take-le (search.at + 1) bytes (omega (arith, within))

  part : IsPartOfBlock (take (search.at + 1) bytes)
  part = λ n below. by n (omega (arith, below, size))
    where
      by : (n : ℕ) → n ≤ search.at → is_ended (take n (take (search.at + 1) bytes)) ≡ false
      by n low = ap is_ended (take-take n (search.at + 1) bytes (omega (arith, low)) ∙ sym (take-take n search.at bytes low)) ∙ at_most n low (cases_lt n search.at)
        where
          at_most : (n : ℕ) → n ≤ search.at → ((n < search.at) ⊎ (search.at ≤ n)) → is_ended (take n (take search.at bytes)) ≡ false
          at_most n low (inl less) = looked.going.part n (let s = length-take-le search.at bytes (omega (arith, within)) in omega (arith, less, s))
          at_most n low (inr high) = ap is_ended (take_all n (take search.at bytes) (let s = length-take-le search.at bytes (omega (arith, within)) in omega (arith, high, s))) ∙ looked.going.going

  judged : MatchOption r (IsUnfinished (take (search.at + 1) bytes)) (IsFound (take (search.at + 1) bytes))
  judged =
      let e : r ≡ (if nat_lt (length (take (search.at + 1) bytes)) 16384 then None else Some found.TooLong) = rw size is in
      let before = length-take-le search.at bytes (omega (arith, within)) in
      by_length (take (search.at + 1) bytes) r e part going feeds (omega (arith, size, before, looked.going.few))

  pub looked_on : IfNone r (IsLookedThrough bytes (record { at = search.at + 1; feeds = search.feeds }))
  looked_on = by r judged
    where
      same : count_by is_line_feed (take (search.at + 1) bytes) ≡ count_by is_line_feed (take search.at bytes)
      same = count_by_more_no is_line_feed bytes search.at 0 within (no_feed (get_or bytes search.at 0) other)

      by : (r : Option Found) → MatchOption r (IsUnfinished (take (search.at + 1) bytes)) (IsFound (take (search.at + 1) bytes))
          → IfNone r (IsLookedThrough bytes (record { at = search.at + 1; feeds = search.feeds }))
      by None h = record { within = omega (arith, within); going = h; feeds = looked.feeds ∙ sym same }
      by (Some f) h = tt

  pub found_by_length : IfSome r (IsFound bytes)
  found_by_length = found_in bytes (search.at + 1) r _ (omega (arith, within)) judged
