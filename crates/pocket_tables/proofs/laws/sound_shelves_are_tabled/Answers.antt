use Rattle.pocket_tables.proofs.LawLemmas.{tabled_from_sound}
use Rattle.pocket_tables.proofs.laws.sound_shelves_are_tabled.Goals as goal

pub returns : goal.returns
returns c = λ w names sound. tabled_from_sound w names sound
