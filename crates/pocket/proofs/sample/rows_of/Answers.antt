use Rattle.std.proofs.Common.{◌≡◌, ℕ, ◌<◌, ◌+◌, List, [], ◌∷◌, ◌++◌, map, take, length, get_or, sym, ap, ◌∙◌}
use Rattle.std.proofs.lemmas.List.{map-append, take_more}
use Rattle.pocket_keeper.specs.declared.rows.KeptRow.{KeptRow}
use Rattle.pocket.proofs.sample.rows_of.Goals as goal

-- one row more, of one pair more
keys_more : {P : Type 0} (f : P → List ℕ) (table : List P) (i : ℕ) (d : P) (rows new : List KeptRow) (row : KeptRow) → i < length table → map (λ r. r.key) rows ≡ map f (take i table)
    → row.key ≡ f (get_or table i d) → new ≡ rows ++ row ∷ [] → map (λ r. r.key) new ≡ map f (take (i + 1) table)
keys_more f table i d rows new row within keys is pushed =
    ap (map (λ r. r.key)) pushed ∙ map-append (λ r. r.key) rows (row ∷ []) ∙ (λ j. keys j ++ (is j ∷ []))
    ∙ sym (map-append f (take i table) (get_or table i d ∷ [])) ∙ sym (ap (map f) (take_more table i d within))

pub loop-key-preserved : goal.loop-key-preserved
loop-key-preserved c =
    keys_more (λ pair. pair.0.now) c.args.table.now c.loop-key.key-index _ c.loop-key.rows c.push.new.self c.in_ok-row.field-0 c.loop-key-test.true c.loop-key.invariant
    (ap (λ r. r.key) c.in_ok-row.ensures) c.in_ok-push.ensures.ok
