use Rattle.pocket_api.proofs.details.referenced_data.Goals as goal

pub returns : goal.returns
returns c = rw (← c.as_str.ensures.text, ← c.as_str-2.ensures.text, ← c.in_ok-text.ensures) c.says.ensures
