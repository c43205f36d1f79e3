use Rattle.std.proofs.Common.{subst, sym}
use Rattle.std.proofs.lemmas.Result.{IfOk-weaker}
use Rattle.pocket_rows.proofs.RecLemmas.{no_token-map, token_read, TokenFound, TokenMayKeep}
use Rattle.pocket_rows.specs.Cells.{MayBeMap}
use Rattle.pocket_rows.proofs.tokens.candidate.Goals as goal

pub returns-in_default-2 : goal.returns-in_default-2
returns-in_default-2 c = no_token-map c.args.row.now c.as_str-2.result.now c.as_str-2.ensures (rw c.in_default-2.is at c.in_ok-members.ensures)

pub returns : goal.returns
returns c =
    let value = c.as_str-2.result.now in
    let ms = c.as_slice.result.now in
    let h = rw c.in-Some-2.is at c.in_ok-members.ensures in
    let is = subst (λ x. MayBeMap value x) (sym c.as_slice.ensures) h in
    IfOk-weaker c.token_of_members.result (TokenFound c.in-Some.text.now ms) (TokenMayKeep c.args.row.now)
    (token_read c.args.row.now c.as_str.result.now c.in-Some.text.now value ms c.as_str.ensures c.in-Some.ensures.1 c.as_str-2.ensures is)
    c.token_of_members.ensures
