use Rattle.std.proofs.Common.{◌≡◌, drop, get_or, true, false, ◌==◌, sym, ap, ◌∙◌, arith, take_all, length-drop}
use Rattle.fast_float.specs.Text.{scan}
use Rattle.pocket_json.specs.Reading.{whole_of, from_zero, below_zero}
use Rattle.pocket_json.proofs.numbers.whole.Goals as goal

pub returns-then-has_minus : goal.returns-then-has_minus
unfolding whole_of
returns-then-has_minus c =
    let s = c.as_bytes-bytes.result.now in
    let signed : (get_or s 0 0 == 45) ≡ true = sym c.if-has_minus.ensures.value in
    let parts : c.scan.result ≡ scan (drop 1 s) = c.scan.ensures.parts ∙ ap scan (take_all _ (drop 1 s) (omega (arith, length-drop 1 s))) in
    let read : below_zero (scan (drop 1 s)) ≡ whole_of s = rw signed in
    c.below_zero.ensures ∙ ap below_zero parts ∙ read ∙ ap whole_of c.as_bytes-bytes.ensures.value

pub returns-else-has_minus : goal.returns-else-has_minus
unfolding whole_of
returns-else-has_minus c =
    let s = c.as_bytes-bytes.result.now in
    let unsigned : (get_or s 0 0 == 45) ≡ false = sym c.if-has_minus.ensures.value in
    let read : from_zero (scan s) ≡ whole_of s = rw unsigned in
    c.from_zero.ensures ∙ ap from_zero c.scan-else-has_minus.ensures.parts ∙ read ∙ ap whole_of c.as_bytes-bytes.ensures.value
