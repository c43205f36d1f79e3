use Rattle.std.proofs.Common.{All, IfSome, sym, ap, subst, ◌∙◌}
use Rattle.std.specs.Option.{option_copied}
use Rattle.pocket_types.specs.Sound.{IsCellTree}
use Rattle.pocket_check.proofs.ReadingLemmas.{list_fine}
use Rattle.pocket_check.proofs.values.texts_of_list.Goals as goal

pub listed-requires : goal.listed-requires
listed-requires c = subst (λ o. IfSome o (All IsCellTree)) (sym c.list_in.ensures ∙ ap option_copied c.in-Some.is) (list_fine c.args.tree.now c.requires)
