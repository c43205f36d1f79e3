use Rattle.std.proofs.lemmas.List.Elements.{All-weaker}
use Rattle.pocket_types.specs.Sound.{IsSoundRec}
use Rattle.pocket_store.specs.SoundStates.{IsSoundRecIn, IsSoundShelf}
use Rattle.pocket_tables.specs.Laws.{HasSoundParts}
use Rattle.pocket_cases.proofs.gate.tables_of.Goals as goal

pub build-requires : goal.build-requires
build-requires c =
    let w = c.in_ok-world.world in
    let sound = c.in_ok-world.ensures in
    c.sound_shelves_are_tabled.ensures w sound.rising
    (All-weaker (IsSoundShelf w) HasSoundParts
    (λ s h. record {
      collection = h.alone;
      recs = All-weaker (IsSoundRecIn w s.collection) (IsSoundRec s.collection) (λ r x. x.alone) s.recs h.recs;
      rising = h.rising;
    }) w.shelves sound.shelves)
