-- Choices and the lists that they choose from.
use Rattle.std.proofs.Common.{◌≡◌, ◌-◌, ◌≤◌, length, get_or, sym, ap, arith, ◌∙◌}
use Rattle.std.specs.Prelude.{Some}
use Rattle.std.proofs.lemmas.Option.{slice_get-get_or}
use Rattle.pocket_types.specs.declared.resolved.Prefix.{Prefix}
use Rattle.pocket_types.specs.declared.resolved.Step.{Step}
use Rattle.pocket_meaning.specs.Sights.{Sight}
use Rattle.pocket_meaning.specs.Choices.{Choice, chosen, related, seen_from, parent, last_step}

pub last_step_is : (p : Prefix) (last : Step) → 1 ≤ length p.steps → last ≡ get_or p.steps (length p.steps - 1) last → last_step p ≡ Some last
last_step_is p last some is = slice_get-get_or p.steps (length p.steps - 1) last (omega arith) ∙ ap Some (sym is)

pub related_last : (s : Sight) (c : Choice) (p : Prefix) (last : Step) → 1 ≤ length p.steps → last ≡ get_or p.steps (length p.steps - 1) last → related s c p ≡ s.steps last (chosen c (parent p))
related_last s c p last some is = ap (seen_from s p.root (chosen c (parent p))) (last_step_is p last some is)
