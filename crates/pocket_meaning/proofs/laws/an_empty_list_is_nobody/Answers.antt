use Rattle.pocket_meaning.specs.Sights.{sight}
use Rattle.pocket_meaning.proofs.Somebody.{some_root, some_step, empty_where_nobody, nobody_of_empty}
use Rattle.pocket_meaning.specs.Related.{sent_field}
use Rattle.pocket_meaning.proofs.laws.an_empty_list_is_nobody.Goals as goal

pub returns : goal.returns
returns c = record {
  root = λ s c is r none. nobody_of_empty (s.roots r) _ (is.root r) none;
  step = λ s c is p t none. nobody_of_empty (s.steps t (c p)) _ (is.step p t) none;
  no_other_root = λ w ask home rec c is r none. empty_where_nobody ((sight w ask home rec).roots r) _ (is.root r) none (some_root w ask home rec r);
  no_other_step = λ w ask home rec c is p t none. empty_where_nobody ((sight w ask home rec).steps t (c p)) _ (is.step p t) none (some_step w (sent_field w home ask.body) t (c p));
}
