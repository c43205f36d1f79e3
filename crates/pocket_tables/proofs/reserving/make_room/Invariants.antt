use Rattle.std.proofs.Common.{All, take}
use Rattle.pocket_tables.specs.Drawers.{AreNoSmaller}
use Rattle.pocket_tables.proofs.RoomLemmas.{HasOwnPlaces}
use Rattle.pocket_tables.proofs.reserving.make_room.Given as goal

abbrev pub invariant-loop-i : goal.invariant-loop-i
invariant-loop-i l = record {
  kept : AreNoSmaller l.fn.drawers l.drawers;
  room : All (HasOwnPlaces l.changes) (take l.i l.drawers);
}
