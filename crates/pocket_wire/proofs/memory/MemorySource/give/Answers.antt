use Rattle.std.proofs.Common.{arith, ◌≡◌, ◌<◌, [], drop, take, length, min, ℕ, ◌+◌, ◌-◌, List, ◌++◌}
use Rattle.std.proofs.lemmas.List.{take-append-drop}
use Rattle.std.proofs.Math.Seq.{take-append_seam}
use Rattle.std.proofs.lemmas.Grind.{common_steps}
use Rattle.pocket_wire.proofs.memory.MemorySource.give.Goals as goal

-- what was copied is the front of what was left
gave : (items buffer copied : List ℕ) (at count : ℕ)
    → copied ≡ take (at + count - at) (drop at items) → length copied ≡ count
    → drop at items ≡ take count (copied ++ drop count buffer) ++ drop (at + count) items
gave items buffer copied at count is len =
    grind (arith, common_steps, take-append-drop count (drop at items), take-append_seam copied (drop count buffer), is, len)

-- nothing was given, and there was room: nothing is left
ended : (items : List ℕ) (at piece room count : ℕ) → 0 < piece → 0 < room
    → count ≡ min (min (length items - at) piece) room → count ≡ 0 → drop (at + count) items ≡ []
ended items at piece room count some space is none = grind (arith, common_steps)

pub returns-clause-left : goal.returns-clause-left
returns-clause-left c =
    let copied = c.copy_from_slice.ensures in
    let after = rw c.deref.ensures.value at copied.after in
    let len : length c.copy_from_slice.new.self ≡ c.min-count.result = grind (arith, common_steps, copied.len, c.min-count.ensures) in
    gave c.args.self.now.bytes.items c.args.buffer.now c.copy_from_slice.new.self c.args.self.now.at c.min-count.result after len

pub returns-clause-ended : goal.returns-clause-ended
returns-clause-ended c = λ none room.
    let n = c.len.ensures in
    let m = c.min.ensures in
    let k = c.min-count.ensures in
    let len : length c.copy_from_slice.new.self ≡ c.min-count.result = grind (arith, common_steps, c.copy_from_slice.ensures.len, k) in
    let space : 0 < length c.args.buffer.now = grind (arith, common_steps, room, none, len) in
    let is : c.min-count.result ≡ min (min (length c.args.self.now.bytes.items - c.args.self.now.at) c.args.self.now.piece) (length c.args.buffer.now) = grind (arith, n, m, k) in
    ended c.args.self.now.bytes.items c.args.self.now.at c.args.self.now.piece (length c.args.buffer.now) c.min-count.result
    c.args.self.now.some space is none
