-- What tuples that are the same have in common.
use Rattle.std.specs.Prelude.{◌≡◌}
use Rattle.std.proofs.Common.{refl, ap}

-- the parts of a link in memory that a read or a write leaves, beside a place that is always the same
pub link_apart : {A B P : Type 0} {one two : A × B} (place : P) → two ≡ one → (two.0 ≡ one.0) × (two.1 ≡ one.1) × (place ≡ place)
link_apart place same = (ap (λ p. p.0) same, ap (λ p. p.1) same, refl)

-- the same of two ends that are lent, with the names of both
pub ends_apart : {A B C D : Type 0} {one two : A × B × C × D} → two ≡ one
    → (two.0 ≡ one.0) × (two.1 ≡ one.1) × (◌≡◌ {A = C × D} (two.2, two.3) (one.2, one.3))
ends_apart same = (ap (λ p. p.0) same, ap (λ p. p.1) same, ap (λ p. (p.2, p.3)) same)
