use Rattle.std.proofs.Common.{◌≡◌, ◌++◌, length, drop}
use Rattle.pocket_check.specs.Bodies.{with_sent}
use Rattle.pocket_change.proofs.bodies.cells_with.Given as goal

-- the cells so far, and what becomes of those that are left
abbrev pub invariant-loop-field : goal.invariant-loop-field
invariant-loop-field l =
    l.made.items ++ with_sent l.sent (record l.collection { fields = drop (length l.yielded) l.collection.fields }) (drop (length l.yielded) l.old)
    ≡ with_sent l.sent l.collection l.old
