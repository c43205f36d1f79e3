use Rattle.std.proofs.Common.{◌≡◌}
use Rattle.std.specs.Prelude.{All, None, vec_len}
use Rattle.pocket_main.proofs.serve.hands_over.Given as goal

abbrev pub invariant-loop : goal.invariant-loop
invariant-loop l = record {
  workers : vec_len l.hands ≡ l.counter;
  connections : All (λ hand. hand.acceptor.left ≡ l.connections) l.hands.items;
  port : l.listener ≡ None → All (λ hand. hand.acceptor.listener ≡ None) l.hands.items;
}
