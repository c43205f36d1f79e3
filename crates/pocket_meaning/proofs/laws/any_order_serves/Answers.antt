use Rattle.pocket_meaning.proofs.Picks.{some_from, some_to, each_from, each_to}
use Rattle.pocket_meaning.proofs.laws.any_order_serves.Goals as goal

pub returns : goal.returns
returns c = record {
  some = λ s d ps f first start all. (some_from s d ps f first all start, some_to s d ps f first all);
  each = λ s d ps l o r first start all. (each_from s d ps l o r first all, each_to s d ps l o r first all start);
}
