use Rattle.pocket_meaning.specs.Sights.{sight}
use Rattle.pocket_meaning.proofs.Picks.{holds_from_list, list_from_holds}
use Rattle.pocket_meaning.proofs.laws.list_and_relation_agree.Goals as goal

pub returns : goal.returns
unfolding Rattle.pocket_meaning.specs.Meaning.holds
returns c = record {
  in_sight = λ s f. (holds_from_list s f, list_from_holds s f);
  of_record = λ w ask home rec f. (holds_from_list (sight w ask home rec) f, list_from_holds (sight w ask home rec) f);
}
