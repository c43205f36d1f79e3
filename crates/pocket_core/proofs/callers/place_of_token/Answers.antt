use Rattle.std.proofs.Common.{rules}
use Rattle.std.proofs.lemmas.Fn.{always_returns_same}
use Rattle.std.specs.Cmp.Lexicographic.{slice_cmp}
use Rattle.std.specs.Ordering.{nat_cmp}
use Rattle.pocket_tables.proofs.PlaceLemmas.{place_found}
use Rattle.pocket_states.specs.States.{text_of}
use Rattle.pocket_core.proofs.callers.place_of_token.Goals as goal

-- the closure compares the texts of tokens
pub returns : goal.returns
returns c =
    let search_made = c.binary_search_by.ensures in
    let by_key = search_made.position (λ t. slice_cmp nat_cmp (text_of t) c.args.text.now) (always_returns_same _ _ _ (λ a r g called. search rules)) in
    place_found text_of c.args.text.now c.args.tokens.now c.binary_search_by.result c.requires search_made.bound by_key
