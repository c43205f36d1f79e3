use Rattle.pocket_meaning.proofs.Standing.{home_stands, auth_stands, look_stands, forward_stands, back_stands}
use Rattle.pocket_meaning.proofs.laws.paths_lead_to_records.Goals as goal

pub returns : goal.returns
returns c = record { home = home_stands; auth = auth_stands; look = look_stands; forward = forward_stands; back = back_stands }
