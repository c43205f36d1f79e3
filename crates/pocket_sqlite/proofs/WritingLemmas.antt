-- What statements inside a transaction, and a commit that is refused, leave of the last commit.
use Rattle.std.proofs.Common.{◌≡◌, ℕ, ◌+◌, ◌<◌, List, [], ◌∷◌, ◌++◌, map, take, length, get_or, Result, Ok, Err, true, false, refl, sym, ap, subst, ◌∙◌, inl, inr, IfErr, OnOk, OnErr, IsTrue}
use Rattle.std.specs.Prelude.{is_ok}
use Rattle.std.proofs.lemmas.List.{map-append, take_more}
use Rattle.sqlite_value.specs.Order.{Row}
use Rattle.sqlite.specs.declared.error.Error.{Error}
use Rattle.sqlite.specs.State.{State, HasCleanDisk, KeepsCommit, KeepsCounts, Shows, Executes}
use Rattle.sqlite.specs.Store.{Ghosts}
use Rattle.sqlite.specs.Held.{Held, state}
use Rattle.sqlite.specs.Steps.{FailsToCommit}
use Rattle.pocket_sqlite.specs.Writing.{HaveBeenKept, HaveRun, IsAsCommitted, IsUncommitted}

keeps_then : (a b c : State) → KeepsCommit a b → KeepsCommit b c → KeepsCommit a c
keeps_then a b c ab bc = record {
  was_open = λ o. ab.was_open (bc.was_open o);
  committed = λ o. bc.committed o ∙ ab.committed (bc.was_open o);
}

module _ {S : Type 0} (g : Ghosts S) where
  -- one statement more
  run_more : (done : List (List ℕ × Row)) (statement : List ℕ × Row) (old mid new : Held S) (count : ℕ) → HaveRun g done old mid
      → Executes statement.0 statement.1 (state g mid) (state g new) (Ok count) → HaveRun g (done ++ statement ∷ []) old new
  run_more [] statement old mid new count run one =
      (new, count, subst (λ h. Executes statement.0 statement.1 (state g h) (state g new) (Ok count)) run one, refl)
  run_more (first ∷ rest) statement old mid new count run one =
      (run.0, run.1, run.2, run_more rest statement run.0 mid new count run.3 one)

  -- a loop's step: the statement of the next item is run too
  pub run_next : {A : Type 0} (f : A → List ℕ × Row) (items : List A) (i : ℕ) (item : A) (old mid new : Held S) → i < length items
      → item ≡ get_or items i item → HaveRun g (map f (take i items)) old mid
      → (count : ℕ) × Executes (f item).0 (f item).1 (state g mid) (state g new) (Ok count) → HaveRun g (map f (take (i + 1) items)) old new
  run_next f items i item old mid new within is run one =
      let more : take (i + 1) items ≡ take i items ++ item ∷ [] = take_more items i item within ∙ ap (λ x. take i items ++ x ∷ []) (sym is) in
      let same : map f (take (i + 1) items) ≡ map f (take i items) ++ f item ∷ [] = ap (map f) more ∙ map-append f (take i items) (item ∷ []) in
      subst (λ ss. HaveRun g ss old new) (sym same) (run_more (map f (take i items)) (f item) old mid new one.0 run one.1)

  -- the statements of two lists, one list after the other
  pub run_both : (first second : List (List ℕ × Row)) (old mid new : Held S) → HaveRun g first old mid → HaveRun g second mid new
      → HaveRun g (first ++ second) old new
  run_both [] second old mid new run rest = subst (λ h. HaveRun g second h new) run rest
  run_both (statement ∷ first) second old mid new run rest = (run.0, run.1, run.2, run_both first second run.0 mid new run.3 rest)

  -- a commit after statements that were run
  pub kept_commit : {T : Type 0} (statements : List (List ℕ × Row)) (old last new : Held S) (result : Result T Error) → HaveRun g statements (record old { in_transaction = true }) last
      → OnOk result (IsTrue (state g last).in_transaction × Shows (state g last) (state g new) (state g last).now (state g last).now false
      × KeepsCounts (state g last) (state g new) × ((state g new).marks ≡ [])) → OnOk result (HaveBeenKept g statements old new)
  kept_commit statements old last new (Ok done) run commits = record { last = last; run = run; committed = commits.1.committed_is }
  kept_commit statements old last new (Err e) run commits = tt

-- a transaction that begins commits nothing
pub uncommitted_begun : {S : Type 0} (g : Ghosts S) (old : Held S) (new : State) → IsUncommitted (state g (record old { in_transaction = true })) new → IsUncommitted (state g old) new
uncommitted_begun g old new since = record {
  clean = since.clean;
  kept = λ clean. record { was_open = (since.kept clean).was_open; committed = (since.kept clean).committed };
}

-- one after the other
pub uncommitted_then : (a b c : State) → IsUncommitted a b → IsUncommitted b c → IsUncommitted a c
uncommitted_then a b c ab bc = record {
  clean = λ clean. ab.clean (bc.clean clean);
  kept = λ clean. keeps_then a b c (ab.kept (bc.clean clean)) (bc.kept clean);
}

-- a commit that is refused in the midst of a transaction
pub refused_commit : {T : Type 0} (old mid new : State) (result : Result T Error) → IsUncommitted old mid → (HasCleanDisk mid → mid.in_transaction ≡ true)
    → (HasCleanDisk new → HasCleanDisk mid) → (HasCleanDisk new → IfErr result (FailsToCommit mid new)) → OnErr result (IsAsCommitted old new)
refused_commit old mid new (Ok done) uncommitted goes back fails = tt
refused_commit old mid new (Err e) uncommitted goes back fails = λ clean still. by (back clean) still (fails clean)
  where
    by : HasCleanDisk mid → IsTrue new.is_open → FailsToCommit mid new e → (new.now ≡ old.committed) × (new.committed ≡ old.committed)
    by clean still (inl (cause, is, has, undone, tells)) =
        let kept = (uncommitted.kept clean).committed (undone.was_open still) in
        ((undone.undone still).0 ∙ kept, (undone.undone still).1 ∙ kept)
    by clean still (inr (is, ended, same)) = absurd (cc (sym ended ∙ goes clean))

-- what an error says, it says under another name too
pub err_mapped : {T E F : Type 0} (A : Type 0) (r : Result T E) (s : Result T F) → is_ok s ≡ is_ok r → OnErr r A → OnErr s A
err_mapped A (Ok x) (Ok y) same said = tt
err_mapped A (Ok x) (Err f) same said = absurd (cc same)
err_mapped A (Err e) (Ok y) same said = tt
err_mapped A (Err e) (Err f) same said = said
