use Rattle.std.proofs.Common.{ℕ, Vec, Global, ap, ◌∙◌}
use Rattle.pocket_wire.proofs.Refusals.{refusal_is}
use Rattle.pocket_wire.proofs.refusal.refused_reply.Goals as goal

pub returns : goal.returns
returns c =
    let items = λ (v : Vec ℕ Global). v.items in
    refusal_is c.args.status c.status_phrase-phrase.result.now c.from_vec.result c.status_phrase-phrase.ensures
    (c.from_vec.ensures ∙ ap items c.into_bytes.ensures.value ∙ c.in_ok-text.ensures.ok)
