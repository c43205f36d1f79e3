-- Rows that are read one by one, and the faults among them.
use Rattle.std.proofs.Common.{◌≡◌, ◌⊎◌, ℕ, ◌+◌, ◌-◌, ◌<◌, List, [], ◌∷◌, ◌++◌, length, map, take, get_or, slice_get, Some, All, sym, ap, subst, ◌∙◌, inl, inr, option_map, arith}
use Rattle.std.proofs.Math.Nat.{eq-or-lt_of_le}
use Rattle.std.specs.Option.{unwrap_or}
use Rattle.std.proofs.lemmas.List.{map-append, length-map}
use Rattle.std.proofs.lemmas.Option.{slice_get-map, slice_get_within, slice_get-get_or, get_or_from_slice_get}
use Rattle.sqlite.proofs.MarkLemmas.{slice_get-take}
use Rattle.sqlite_value.specs.Order.{Row}
use Rattle.pocket_types.specs.Order.{IsBefore}
use Rattle.pocket_types.proofs.OrderLemmas.{before_trans}
use Rattle.pocket_keeper.specs.declared.rows.KeptRow.{KeptRow}
use Rattle.pocket_keeper.specs.Rows.{IsRising}
use Rattle.pocket_sqlite.specs.Reading.{cells, shown, AreRead, IsReadable, IsBehind, AreFaulty}

-- what stands after the last of rows that rise stands after each
pub below_last : (key : List ℕ) (rows : List KeptRow) (last : KeptRow) → IsRising rows → slice_get rows (length rows - 1) ≡ Some last
    → IsBefore last.key key → All (λ row. IsBefore row.key key) rows
below_last key rows last rises is before k d within =
    let end : get_or rows (length rows - 1) d ≡ last = get_or_from_slice_get rows (length rows - 1) last d is in
    by (eq-or-lt_of_le (omega arith)) end
  where
    by : (k ≡ length rows - 1) ⊎ (k < length rows - 1) → get_or rows (length rows - 1) d ≡ last → IsBefore (get_or rows k d).key key
    by (inl e) end = subst (λ r. IsBefore r.key key) (sym (ap (λ i. get_or rows i d) e ∙ end)) before
    by (inr less) end =
        before_trans (get_or rows k d).key last.key key
        (subst (λ r. IsBefore (get_or rows k d).key r.key) end (rises k (length rows - 1) d less (omega arith))) before

-- one row more
pub push_read : (found : List Row) (rows : List KeptRow) (next : Row) (row : KeptRow) → AreRead found rows → shown next ≡ cells row
    → AreRead (found ++ next ∷ []) (rows ++ row ∷ [])
push_read found rows next row read one =
    map-append shown found (next ∷ []) ∙ ap (λ cs. cs ++ shown next ∷ []) read ∙ ap (λ c. map cells rows ++ c ∷ []) one
    ∙ sym (map-append cells rows (row ∷ []))

-- as many rows are read as were found
pub same_length : (found : List Row) (rows : List KeptRow) → AreRead found rows → length rows ≡ length found
same_length found rows read = sym (length-map rows cells) ∙ sym (ap length read) ∙ length-map found shown

-- the row that is behind the last that was read is behind the one found before it
behind_found : (found done : List Row) (rows : List KeptRow) (next : Row) → AreRead done rows → done ≡ take (length done) found
    → slice_get found (length done) ≡ Some next → IsBehind rows next → AreFaulty found
behind_found found done rows next read front at_next behind =
    let last = behind.0 in
    let same = same_length done rows read in
    let inside = slice_get_within rows (length rows - 1) last behind.2 in
    let within : length rows - 1 < length done = omega (arith, same, inside) in
    let first = get_or done (length rows - 1) next in
    let is : slice_get done (length rows - 1) ≡ Some first = slice_get-get_or done (length rows - 1) next within in
    let one : Some (shown first) ≡ Some (cells last) =
    sym (slice_get-map shown done (length rows - 1) ∙ ap (option_map shown) is) ∙ ap (λ l. slice_get l (length rows - 1)) read
    ∙ slice_get-map cells rows (length rows - 1) ∙ ap (option_map cells) behind.2 in
    let pair : shown first ≡ cells last = ap (λ o. unwrap_or o (cells last)) one in
    let here : slice_get found (length rows - 1) ≡ Some first =
    sym (slice_get-take (length done) found (length rows - 1) within) ∙ ap (λ l. slice_get l (length rows - 1)) (sym front) ∙ is in
    let next_at : length rows - 1 + 1 ≡ length done = omega (arith, same, inside) in
    inr (length rows - 1, first, next, here, ap (slice_get found) next_at ∙ at_next, (last.key, behind.1, ap (λ p. p.0) pair, behind.3, behind.4))

-- the next row that was found isn't read, or is behind those that were
pub faulty_next : (found done : List Row) (rows : List KeptRow) (next : Row) → AreRead done rows → done ≡ take (length done) found
    → slice_get found (length done) ≡ Some next → (¬ (IsReadable next)) ⊎ IsBehind rows next → AreFaulty found
faulty_next found done rows next read front at_next (inl unread) = inl (length done, next, at_next, unread)
faulty_next found done rows next read front at_next (inr behind) = behind_found found done rows next read front at_next behind
