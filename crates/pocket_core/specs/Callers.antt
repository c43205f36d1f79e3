-- Works taken apart: what rules see of one, and the rest.
use Rattle.pocket_types.specs.declared.requests.Ask.{Ask}
use Rattle.pocket_api.specs.declared.work.Work.{Work}
use Rattle.pocket_core.specs.declared.callers.Rest.{Rest}

-- the work that two parts were
abbrev pub whole_of : Ask → Rest → Work
whole_of ask rest = record {
  token = rest.token;
  method = ask.method;
  headers = ask.headers;
  query = ask.query;
  draw = rest.draw;
  call = rest.call;
  cost = rest.cost;
}
