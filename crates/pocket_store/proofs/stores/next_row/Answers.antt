use Rattle.pocket_store.proofs.stores.next_row.Goals as goal

pub returns-in-Some-counted : goal.returns-in-Some-counted
returns-in-Some-counted c = λ before small.
    let holds = rw c.in-Some.is at c.in_ok-found.ensures in
    (holds, c.in-Some-counted.ensures c.args.rows.now c.args.collections.now before holds small)

pub returns-in-None : goal.returns-in-None
returns-in-None c = λ before small both.
    let holds = rw c.in-Some.is at c.in_ok-found.ensures in
    c.in-None.ensures c.args.rows.now c.args.collections.now before holds small both.1
