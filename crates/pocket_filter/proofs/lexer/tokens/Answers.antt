use Rattle.std.proofs.Common.{◌-◌, length, map, refl, sym, ap, ◌∙◌, arith}
use Rattle.std.proofs.lemmas.Bool.{eqb-false}
use Rattle.pocket_filter.specs.declared.tokens.Token.{Token}
use Rattle.pocket_filter.specs.Fronts as front
use Rattle.pocket_filter.specs.Parsed.{tokens_from}
use Rattle.pocket_filter.specs.Tokens.{lexeme_of, placed}
use Rattle.pocket_filter.proofs.FrontLemmas.{front_found}
use Rattle.pocket_filter.proofs.Readings.{after_separator, after_token, all_of}
use Rattle.pocket_filter.proofs.lexer.tokens.Goals as goal

pub range_from-rest-requires : goal.range_from-rest-requires
range_from-rest-requires c =
    let some = eqb-false _ _ (sym c.is_empty.ensures ∙ c.loop-rest-test.true) in
    let piece = front_found c.loop-rest.rest.now (front.Separator c.in-Separator.len) c.loop-rest.invariant.0 (omega arith) c.in-Separator.ensures in
    λ _. piece.2

pub loop-rest-smaller-in-Separator : goal.loop-rest-smaller-in-Separator
loop-rest-smaller-in-Separator c =
    let some = eqb-false _ _ (sym c.is_empty.ensures ∙ c.loop-rest-test.true) in
    let piece = front_found c.loop-rest.rest.now (front.Separator c.in-Separator.len) c.loop-rest.invariant.0 (omega arith) c.in-Separator.ensures in
    let positive = piece.0 in
    let within = piece.1.within in
    let len = c.range_from-rest.ensures.len in
    omega arith

pub loop-rest-preserved-in-Separator : goal.loop-rest-preserved-in-Separator
loop-rest-preserved-in-Separator c =
    let some = eqb-false _ _ (sym c.is_empty.ensures ∙ c.loop-rest-test.true) in
    let piece = front_found c.loop-rest.rest.now (front.Separator c.in-Separator.len) c.loop-rest.invariant.0 (omega arith) c.in-Separator.ensures in
    let kept = c.loop-rest.invariant.1 in
    let within = kept.within in
    let len = c.range_from-rest.ensures.len in (
      c.range_from-rest.utf8,
      record {
        within = omega arith;
        goes_on =
            kept.goes_on ∙ ap (all_of (map placed c.loop-rest.found.items))
            (after_separator c.args.text.now c.loop-rest.rest.now c.range_from-rest.result.now c.in-Separator.len piece.0 piece.1.within c.in-Separator.ensures c.range_from-rest.ensures.value within);
      },
    )

pub range_from-rest-requires-in-Token : goal.range_from-rest-requires-in-Token
range_from-rest-requires-in-Token c =
    let some = eqb-false _ _ (sym c.is_empty.ensures ∙ c.loop-rest-test.true) in
    let piece = front_found c.loop-rest.rest.now (front.Token (lexeme_of c.in-Token.kind) c.in-Token.len) c.loop-rest.invariant.0 (omega arith) c.in-Token.ensures in
    λ _. piece.3

pub loop-rest-smaller : goal.loop-rest-smaller
loop-rest-smaller c =
    let some = eqb-false _ _ (sym c.is_empty.ensures ∙ c.loop-rest-test.true) in
    let piece = front_found c.loop-rest.rest.now (front.Token (lexeme_of c.in-Token.kind) c.in-Token.len) c.loop-rest.invariant.0 (omega arith) c.in-Token.ensures in
    let positive = piece.0 in
    let within = piece.1.within in
    let len = c.range_from-rest-in-Token.ensures.len in
    omega arith

pub loop-rest-preserved : goal.loop-rest-preserved
loop-rest-preserved c =
    let text = c.args.text.now in
    let rest = c.loop-rest.rest.now in
    let left = c.range_from-rest-in-Token.result.now in
    let some = eqb-false _ _ (sym c.is_empty.ensures ∙ c.loop-rest-test.true) in
    let piece = front_found rest (front.Token (lexeme_of c.in-Token.kind) c.in-Token.len) c.loop-rest.invariant.0 (omega arith) c.in-Token.ensures in
    let kept = c.loop-rest.invariant.1 in
    let within = kept.within in
    let len = c.range_from-rest-in-Token.ensures.len in
    let found : Token = record { at = length text - length rest; kind = c.in-Token.kind } in (
      c.range_from-rest-in-Token.utf8,
      record {
        within = omega arith;
        goes_on =
            kept.goes_on ∙ after_token text rest left c.in-Token.len c.loop-rest.found.items found piece.0 piece.1.within c.in-Token.ensures c.range_from-rest-in-Token.ensures.value within refl
            ∙ ap (λ ts. all_of (map placed ts) (tokens_from 0 (length text - length left) left)) (sym c.in_ok-push-in-Token.ensures.items);
      },
    )
