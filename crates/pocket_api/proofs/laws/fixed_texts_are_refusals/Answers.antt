use Rattle.std.proofs.Common.{[], ◌∷◌, codes, refl}
use Rattle.std.specs.Fmt.{digits}
use Rattle.pocket_types.specs.Json.{escape_byte}
use Rattle.pocket_api.specs.Refusals.{message_of, no_data, number_jv, text_jv}
use Rattle.pocket_api.proofs.PrintedLemmas.{printed_map, printed_number, printed_text}
use Rattle.pocket_api.proofs.laws.fixed_texts_are_refusals.Goals as goal

pub returns-clause-memory : goal.returns-clause-memory
unfolding digits escape_byte
returns-clause-memory c =
    rw (
      printed_map ((codes "data", no_data) ∷ (codes "message", text_jv (message_of 507)) ∷ (codes "status", number_jv 507) ∷ []),
      printed_map [],
      printed_text (message_of 507),
      printed_number 507,
    )
    refl

pub returns-clause-store : goal.returns-clause-store
unfolding digits escape_byte
returns-clause-store c =
    rw (
      printed_map ((codes "data", no_data) ∷ (codes "message", text_jv (message_of 500)) ∷ (codes "status", number_jv 500) ∷ []),
      printed_map [],
      printed_text (message_of 500),
      printed_number 500,
    )
    refl
