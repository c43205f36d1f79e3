-- What links in memory tell.
use Rattle.std.specs.Prelude.{ℕ, List, Option}
use Rattle.pocket_wire.specs.declared.memory.MemoryLink.{MemoryLink}
use Rattle.pocket_serve.specs.Accepting.{Finished, finished_link}
use Rattle.pocket_serve.specs.declared.input.FinishedLink.{FinishedLink}
use Rattle.pocket_serve.specs.declared.input.LinkInput.{LinkInput}

-- the bytes that a link gives
abbrev pub input_bytes : LinkInput → List ℕ
input_bytes input = input.bytes

-- a link that ended, as it is finished
abbrev pub finished_view : (MemoryLink → Option (List ℕ)) → (MemoryLink → Option (List ℕ)) → (MemoryLink → ℕ) → (MemoryLink → ℕ) → FinishedLink → Finished
finished_view left taken read_faults write_faults finished = finished_link left taken read_faults write_faults finished.link finished.ended
