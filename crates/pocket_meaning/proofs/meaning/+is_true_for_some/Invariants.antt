use Rattle.std.proofs.Common.{◌≡◌, ◌++◌, ◌∷◌, [], map, take, length, false}
use Rattle.std.specs.List.{list_any}
use Rattle.pocket_meaning.specs.Choices.{chosen, choices_from}
use Rattle.pocket_meaning.specs.Meaning.{true_under}
use Rattle.pocket_meaning.specs.Seen.{seen, choice_of}
use Rattle.pocket_meaning.proofs.meaning.+is_true_for_some.Given as goal

abbrev pub decreases-is_true_for_some : goal.decreases-is_true_for_some
decreases-is_true_for_some g l = length l.prefixes.now

abbrev pub invariant-loop-member : goal.invariant-loop-member
invariant-loop-member g l =
    list_any (λ m. list_any (λ c. true_under (g.S.Sees.all_seen l.scene) (chosen c) l.filter) (choices_from (g.S.Sees.all_seen l.scene) l.rest (choice_of l.choice ++ (l.prefix, m) ∷ []))) (map seen (take l.member-index l.member-items)) ≡ false
