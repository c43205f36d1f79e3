use Rattle.std.proofs.Common.{◌≡◌, ◌<◌, ◌≤◌, true, length, arith, rules}
use Rattle.std.specs.List.{list_all}
use Rattle.std.proofs.lemmas.Grind.{common_steps}
use Rattle.pocket_types.specs.Names.{is_digit}
use Rattle.pocket_api.proofs.NumberLemmas.{few_digits, reads_digits, ten_power}
use Rattle.pocket_api.proofs.query.number.Goals as goal

pub returns-then-is_empty-clause-bound : goal.returns-then-is_empty-clause-bound
returns-then-is_empty-clause-bound c = ten_power c.args.most

pub returns-in-Err-clause-bound : goal.returns-in-Err-clause-bound
returns-in-Err-clause-bound c = ten_power c.args.most

pub returns-in-Ok-clause-bound : goal.returns-in-Ok-clause-bound
returns-in-Ok-clause-bound c =
    let few : length c.args.text.now ≤ c.args.most = grind (arith, c.if-text-most.false) in
    let digits : list_all is_digit c.args.text.now ≡ true = grind (rules, c.if-not-digits.false, c.are_digits-digits.ensures, c.as_bytes.ensures.value) in
    let some : 0 < length c.args.text.now = grind (arith, common_steps, c.if-is_empty.false, c.is_empty.ensures) in
    let read = reads_digits c.args.text.now c.parse.result c.parse.ensures.value.0 digits some (omega (arith, few, c.requires)) in
    let small = few_digits c.args.text.now c.args.most digits few in
    grind (arith, read, small, c.in-Ok.is)

pub returns-in-Err-clause-value : goal.returns-in-Err-clause-value
returns-in-Err-clause-value c =
    let few : length c.args.text.now ≤ c.args.most = grind (arith, c.if-text-most.false) in
    let digits : list_all is_digit c.args.text.now ≡ true = grind (rules, c.if-not-digits.false, c.are_digits-digits.ensures, c.as_bytes.ensures.value) in
    let some : 0 < length c.args.text.now = grind (arith, common_steps, c.if-is_empty.false, c.is_empty.ensures) in
    let read = reads_digits c.args.text.now c.parse.result c.parse.ensures.value.0 digits some (omega (arith, few, c.requires)) in
    absurd (cc (read, c.in-Err.is))
