use Rattle.pocket_tables.proofs.InverseLemmas.{fits_back}
use Rattle.pocket_tables.proofs.WorldLemmas.{leads_back, ordered_from}
use Rattle.pocket_tables.proofs.laws.inverses_undo.Goals as goal

pub returns : goal.returns
returns c = λ d w tabled fits.
    let ordered = ordered_from w tabled in
    record { fits = fits_back d w ordered fits; back = leads_back d w ordered fits }
