use Rattle.std.proofs.Common.{ℕ, List, ap, sym, ◌∙◌}
use Rattle.pocket_store.specs.declared.stored.Stored.{Stored}
use Rattle.pocket_states.specs.Clients.{Client}
use Rattle.pocket_states.specs.States.{MachineState, stored_in}
use Rattle.pocket_core.proofs.laws.kept_rows_decide_the_state.Goals as goal

abbrev state_with : List Client → List ℕ → Stored → MachineState
state_with clients admin stored = record { world = stored.world; admin = admin; tokens = stored.tokens; clients = clients }

pub returns : goal.returns
returns c = λ a b sound_a sound_b none_a none_b same.
    ap (state_with a.clients b.admin) (c.sound_states_with_equal_rows_are_equal.ensures (stored_in a) (stored_in b) sound_a.kept sound_b.kept same)
    ∙ ap (λ clients. state_with clients b.admin (stored_in b)) (none_a ∙ sym none_b)
