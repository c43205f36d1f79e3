use Rattle.std.proofs.Common.{◌≡◌, ◌≢◌, ◌+◌, ◌==◌, ℕ, List, ◌∷◌, drop, false, get_or, refl, sym, ◌∙◌, ap, arith, ne_eqb}
use Rattle.std.proofs.lemmas.List.{drop_more}
use Rattle.pocket_filter.specs.Scanning.{closing}
use Rattle.pocket_filter.proofs.lexer.closing_quote.Goals as goal
use Rattle.pocket_filter.proofs.lexer.closing_quote.Goals.{then-escaped, else-escaped+else-b-quote}

past : (quote at b : ℕ) (rest : List ℕ) → b ≢ quote → closing quote (b == 92) (at + 1) rest ≡ closing quote false at (b ∷ rest)
past quote at b rest apart = rw (ne_eqb b quote apart) refl

pub loop-at-preserved : goal.loop-at-preserved
loop-at-preserved c =
    let quote = c.args.quote in
    let at = c.loop-at.at in
    let bytes = c.args.bytes.now in
    let b = get_or bytes at 0 in
    let rest = drop (at + 1) bytes in
    let before = sym (ap (closing quote c.loop-at.escaped at) (drop_more bytes at 0 (omega arith))) ∙ c.loop-at.invariant in
    elim c.if-escaped.branch [
      | then-escaped w ↦ ap (λ e. closing quote e (at + 1) rest) w.escaped-is ∙ sym (ap (λ e. closing quote e at (b ∷ rest)) w.if-escaped.true) ∙ before
      | else-escaped+else-b-quote w ↦ ap (λ e. closing quote e (at + 1) rest) w.escaped-is ∙ past quote at b rest w.if-b-quote.false ∙ sym (ap (λ e. closing quote e at (b ∷ rest)) w.if-escaped.false) ∙ before
    ]
