use Rattle.std.proofs.Common.{rules}
use Rattle.pocket_api.proofs.PathLemmas.{both_end, both_go_on, path_ends, route_ends}
use Rattle.pocket_api.proofs.routes.+fits.Goals as goal

pub returns-in-None-None : goal.returns-in-None-None
returns-in-None-None n c = grind (rules, both_end)

pub returns-then-first : goal.returns-then-first
returns-then-first n c =
    let route = rw c.in-Some-Some.is-0 at c.first_segment.ensures.first in
    let path = rw c.in-Some-Some.is-1 at c.first_segment-2.ensures.first in
    let both = both_go_on c.args.route.now c.args.path.now c.first_segment.result.0.now c.first_segment-2.result.0.now
    c.in-Some-Some.words.now c.in-Some-Some.rest.now route path in
    grind (rules, both)

pub returns-else-first : goal.returns-else-first
returns-else-first n c =
    let route = rw c.in-Some-Some.is-0 at c.first_segment.ensures.first in
    let path = rw c.in-Some-Some.is-1 at c.first_segment-2.ensures.first in
    let both = both_go_on c.args.route.now c.args.path.now c.first_segment.result.0.now c.first_segment-2.result.0.now
    c.in-Some-Some.words.now c.in-Some-Some.rest.now route path in
    grind (rules, both)

pub returns-in_default : goal.returns-in_default
returns-in_default n c = grind (rules, route_ends)

pub returns-in_default-2 : goal.returns-in_default-2
returns-in_default-2 n c = grind (rules, path_ends)
