use Rattle.pocket_api.proofs.details.required_data.Goals as goal

pub returns : goal.returns
returns c = rw (← c.as_str.ensures.text, ← c.as_str-2.ensures, ← c.as_str-3.ensures.text, ← c.in_ok-text.ensures) c.says.ensures
