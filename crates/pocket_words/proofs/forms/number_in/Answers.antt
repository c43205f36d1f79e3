use Rattle.std.proofs.Common.{◌≡◌, true, rules}
use Rattle.pocket_words.specs.Forms.{is_number}
use Rattle.pocket_words.proofs.NumberLemmas.{unread}
use Rattle.pocket_words.proofs.forms.number_in.Goals as goal

pub returns-in-Err-clause-value : goal.returns-in-Err-clause-value
returns-in-Err-clause-value c =
    let number : is_number c.args.text.now ≡ true = grind (rules, c.if-not-is_number.false, c.is_number.ensures) in
    unread c.args.least c.args.most c.args.text.now c.parse.result c.in-Err.field-0 c.parse.ensures.value.0 c.in-Err.is number c.ranges.most.fits
