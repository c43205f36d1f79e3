-- What rules see of a work.
use Rattle.std.specs.Prelude.{List, []}
use Rattle.pocket_types.specs.declared.requests.Ask.{Ask}
use Rattle.pocket_types.specs.declared.requests.Caller.{Caller}
use Rattle.pocket_types.specs.declared.requests.Context.TheVariants.{Default}
use Rattle.pocket_types.specs.declared.requests.Sent.{Sent}
use Rattle.pocket_api.specs.declared.work.Work.{Work}

-- what rules see of a work of this caller that sends these fields
abbrev pub ask_with : Caller → Work → List Sent → Ask
ask_with who work sent = record {
  caller = who;
  method = work.method;
  context = Default;
  headers = work.headers;
  query = work.query;
  body = sent;
  moment = work.draw.moment;
}

-- what they see of a work that sends none. The record that a creation or an update shows is judged under it too.
abbrev pub bare_ask : Caller → Work → Ask
bare_ask who work = ask_with who work []
