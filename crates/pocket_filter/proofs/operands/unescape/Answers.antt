use Rattle.std.proofs.Common.{◌≡◌, ◌++◌, ◌∷◌, ◌+◌, [], false, length, drop, IfOk, sym, ◌∙◌, ap, subst, arith, append_assoc}
use Rattle.std.proofs.lemmas.Iterator.{YieldsList-from_chars}
use Rattle.std.proofs.lemmas.Iterator.Consumers.{YieldsList-turn, YieldsList-end}
use Rattle.std.proofs.lemmas.List.{length_push, drop_all}
use Rattle.std.specs.Str.{chars}
use Rattle.std.specs.String.{string_bytes}
use Rattle.pocket_filter.specs.Scanning.{escapes, given_by, given}
use Rattle.pocket_filter.proofs.Escapes.{given_whole, given_more}
use Rattle.pocket_filter.proofs.operands.unescape.Goals as goal

pub loop-c-init : goal.loop-c-init
loop-c-init c =
    let inside = c.args.inside.now in
    ap (λ s. s ++ given c.args.quote false (chars inside)) c.new-out.ensures.bytes ∙ given_whole c.args.quote inside c.if-quote-ge128.false c.utf8.inside

pub loop-c-preserved : goal.loop-c-preserved
loop-c-preserved c =
    let quote = c.args.quote in
    let cs = chars c.args.inside.now in
    let yielded = c.loop-c.yielded in
    let escaped = c.loop-c.escaped in
    let next = c.in-Some.c in
    let old = string_bytes c.loop-c.out in
    let t = YieldsList-turn (YieldsList-from_chars c.args.inside.now c.utf8.inside cc) yielded _ c.loop-c.yielded_by _ _ next c.in-Some.is c.next.ensures.steps in
    let more = given_more quote escaped cs (length yielded) next t in
    let tail = ap (λ e. given quote e (drop (length (yielded ++ next ∷ [])) cs)) c.in_ok-escaped.ensures.next ∙ ap (λ n. given quote (escapes escaped next) (drop n cs)) (length_push yielded next) in
    ap (λ s. s ++ given quote c.in_ok-escaped.escaped (drop (length (yielded ++ next ∷ [])) cs)) c.in_ok-escaped.ensures.given
    ∙ ap (λ s. (old ++ given_by quote escaped next) ++ s) tail
    ∙ append_assoc old (given_by quote escaped next) (given quote (escapes escaped next) (drop (length yielded + 1) cs))
    ∙ ap (λ s. old ++ s) (sym more) ∙ c.loop-c.invariant

pub returns : goal.returns
returns c =
    let quote = c.args.quote in
    let cs = chars c.args.inside.now in
    let t = YieldsList-end (YieldsList-from_chars c.args.inside.now c.utf8.inside cc) c.loop-c.yielded _ c.loop-c.yielded_by _ _ c.in-None.is c.next.ensures.steps in
    let all : drop (length c.loop-c.yielded) cs ≡ [] = drop_all (length c.loop-c.yielded) cs (let same = t.1 in omega arith) in
    let whole = sym (ap (λ s. string_bytes c.loop-c.out ++ given quote c.loop-c.escaped s) all) ∙ c.loop-c.invariant in
    subst (λ s. IfOk c.closed.result (λ text. text ≡ s)) whole c.closed.ensures
