-- Terms one after another: the first bad one counts.
use Rattle.std.proofs.Common.{◌≡◌, ℕ, List, [], ◌∷◌, ◌≤◌, arith, get_or, length, map, refl, ap, ◌∙◌, Result, Err, Bor}
use Rattle.std.specs.Prelude.{fold}
use Rattle.pocket_types.specs.declared.records.Collection.{Collection}
use Rattle.pocket_resolve.specs.declared.purpose.Purpose.{Purpose}
use Rattle.pocket_read.specs.Terms.{with_term}
use Rattle.pocket_read.specs.declared.faults.ReadFault.{ReadFault}
use Rattle.pocket_read.specs.declared.terms.SortTerm.{SortTerm}

stays_bad : (cs : List Collection) (p : Purpose) (e : ReadFault) (texts : List (List ℕ)) → fold (with_term cs p) (Err e) texts ≡ Err e
stays_bad cs p e [] = refl
stays_bad cs p e (t ∷ texts) = stays_bad cs p e texts

-- behind a bad term nothing is asked
first_bad : (cs : List Collection) (p : Purpose) (before : Result (List SortTerm) ReadFault) (text : List ℕ) (texts : List (List ℕ)) (e : ReadFault)
    → with_term cs p before text ≡ Err e → fold (with_term cs p) before (text ∷ texts) ≡ Err e
first_bad cs p before text texts e bad = ap (λ found. fold (with_term cs p) found texts) bad ∙ stays_bad cs p e texts

-- the same of texts that were lent
pub bad_at_first : (cs : List Collection) (p : Purpose) (before : Result (List SortTerm) ReadFault) (texts : List (Bor (List ℕ))) (d : Bor (List ℕ)) (e : ReadFault) → 1 ≤ length texts
    → with_term cs p before (get_or texts 0 d).now ≡ Err e → fold (with_term cs p) before (map (λ t. t.now) texts) ≡ Err e
bad_at_first cs p before [] d e some bad = absurd (omega arith)
bad_at_first cs p before (text ∷ texts) d e some bad = first_bad cs p before text.now (map (λ t. t.now) texts) e bad
