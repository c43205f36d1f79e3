use Rattle.std.proofs.Common.{◌∙◌, ap, map}
use Rattle.std.specs.String.{string_bytes}
use Rattle.clap.specs.Faults.{fault_of, is_simple_and_free}
use Rattle.pocket_words.proofs.ClapReads.{all_free, all_good, only_memory}
use Rattle.pocket_words.proofs.parsing.parsed.Goals as goal

pub unreachable-requires : goal.unreachable-requires
unreachable-requires c =
    let words = map string_bytes c.args.words.now in
    let faultless = ap (λ a. fault_of a words) c.requires.app ∙ all_good c.args.verb words c.requires.good in
    let kinds = c.in-Err.ensures.kinds (ap is_simple_and_free c.requires.app ∙ all_free c.args.verb) in
    c.in_default.not-OutOfMemory (c.kind.ensures ∙ only_memory _ c.in-Err.error faultless kinds)
