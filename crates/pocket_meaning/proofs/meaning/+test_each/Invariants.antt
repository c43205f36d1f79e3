use Rattle.std.proofs.Common.{◌≡◌, ◌++◌, ◌∷◌, [], map, take, length, true}
use Rattle.std.specs.List.{list_all}
use Rattle.pocket_meaning.specs.Choices.{chosen, choices_from}
use Rattle.pocket_meaning.specs.Meaning.{test_under}
use Rattle.pocket_meaning.specs.Seen.{seen, choice_of}
use Rattle.pocket_meaning.proofs.meaning.+test_each.Given as goal

abbrev pub decreases-test_each : goal.decreases-test_each
decreases-test_each g l = length l.prefixes.now

abbrev pub invariant-loop-member : goal.invariant-loop-member
invariant-loop-member g l =
    list_all (λ m. list_all (λ c. test_under (g.S.Sees.all_seen l.scene) (chosen c) l.left l.op l.right) (choices_from (g.S.Sees.all_seen l.scene) l.rest (choice_of l.choice ++ (l.prefix, m) ∷ []))) (map seen (take l.member-index l.member-items)) ≡ true
