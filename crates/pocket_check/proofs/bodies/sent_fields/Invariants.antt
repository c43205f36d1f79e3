use Rattle.std.proofs.Common.{◌≡◌, [], length, drop}
use Rattle.pocket_check.proofs.LoopLemmas.{sent_on}
use Rattle.pocket_check.proofs.bodies.sent_fields.Given as goal

-- what is left of the fields, behind those sent so far
abbrev pub invariant-loop-field : goal.invariant-loop-field
invariant-loop-field l =
    sent_on l.caller l.members l.collection.fields l.old [] ≡ sent_on l.caller l.members (drop (length l.yielded) l.collection.fields) (drop (length l.yielded) l.old) l.sent
