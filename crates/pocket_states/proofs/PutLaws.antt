-- The laws of puts.
use Rattle.pocket_states.specs.Laws.{PutsKeepRows, PutsKeepSound, TextsDecide}
use Rattle.pocket_states.proofs.PutLemmas.{put_collections, put_keeps_sound}
use Rattle.pocket_states.proofs.PutRowLemmas.{put_rows, text_decides}

pub keep_sound : PutsKeepSound
keep_sound s c r p = record {
  sound = put_keeps_sound s c r p.sound p.there p.may;
  collections = put_collections s c r p.sound p.there p.may;
}

pub keep_rows : PutsKeepRows
keep_rows s c r told p same = put_rows s c r p.sound p.there told same

pub decide : TextsDecide
decide s c r p = text_decides s c r p.sound p.there p.may
