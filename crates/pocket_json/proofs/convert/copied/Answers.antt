use Rattle.std.proofs.Common.{◌≡◌, ℕ, List, true, IsTrue, ap, ◌∙◌}
use Rattle.std.specs.Prelude.{Result, Ok, Err, IfOk}
use Rattle.std.specs.Str.{is_utf8}
use Rattle.std.proofs.lemmas.Str.{is_utf8-from_IsUtf8}
use Rattle.pocket_json.proofs.convert.copied.Goals as goal

both : {E : Type 0} (t : List ℕ) (r : Result (List ℕ) E) → is_utf8 t ≡ true → IfOk r (λ copy. copy ≡ t) → IfOk r (λ copy. (copy ≡ t) × IsTrue (is_utf8 copy))
both t (Ok copy) u same = (same, ap is_utf8 same ∙ u)
both t (Err e) u h = tt

pub returns : goal.returns
returns c = both c.args.text.now c.from_str.result (is_utf8-from_IsUtf8 c.args.text.now c.utf8.text) c.from_str.ensures
