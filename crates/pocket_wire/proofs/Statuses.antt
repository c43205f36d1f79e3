-- A number that isn't a status code has no phrase.
use Rattle.std.proofs.Common.{◌≡◌, ◌≤◌, ◌<◌, ℕ, List, Option, None, false, arith, refl, ◌∙◌}
use Rattle.std.specs.Prelude.{◌==◌, if◌then◌else◌}
use Rattle.http.specs.StatusCode.{IsStatusCode, reason_phrase}

skip : (n k : ℕ) (x y : Option (List ℕ)) → (n ≡ k → ⊥) → (if n == k then x else y) ≡ y
skip n k x y other = let e : (n == k) ≡ false = grind arith in rw e refl

module _ (n : ℕ) (outside : IsStatusCode n → ⊥) where
  -- it isn't this code
  past : (k : ℕ) (x y : Option (List ℕ)) → 100 ≤ k → k < 1000 → (if n == k then x else y) ≡ y
  past k x y low high = skip n k x y (λ e. outside (omega (arith, e, low), omega (arith, e, high)))

  -- the codes that have a phrase, one after another
  pub has_no_phrase : reason_phrase n ≡ None
  has_no_phrase =
      past 100 _ _ (omega arith) (omega arith) ∙ past 101 _ _ (omega arith) (omega arith)
      ∙ past 102 _ _ (omega arith) (omega arith) ∙ past 103 _ _ (omega arith) (omega arith)
      ∙ past 200 _ _ (omega arith) (omega arith) ∙ past 201 _ _ (omega arith) (omega arith)
      ∙ past 202 _ _ (omega arith) (omega arith) ∙ past 203 _ _ (omega arith) (omega arith)
      ∙ past 204 _ _ (omega arith) (omega arith) ∙ past 205 _ _ (omega arith) (omega arith)
      ∙ past 206 _ _ (omega arith) (omega arith) ∙ past 207 _ _ (omega arith) (omega arith)
      ∙ past 208 _ _ (omega arith) (omega arith) ∙ past 226 _ _ (omega arith) (omega arith)
      ∙ past 300 _ _ (omega arith) (omega arith) ∙ past 301 _ _ (omega arith) (omega arith)
      ∙ past 302 _ _ (omega arith) (omega arith) ∙ past 303 _ _ (omega arith) (omega arith)
      ∙ past 304 _ _ (omega arith) (omega arith) ∙ past 305 _ _ (omega arith) (omega arith)
      ∙ past 307 _ _ (omega arith) (omega arith) ∙ past 308 _ _ (omega arith) (omega arith)
      ∙ past 400 _ _ (omega arith) (omega arith) ∙ past 401 _ _ (omega arith) (omega arith)
      ∙ past 402 _ _ (omega arith) (omega arith) ∙ past 403 _ _ (omega arith) (omega arith)
      ∙ past 404 _ _ (omega arith) (omega arith) ∙ past 405 _ _ (omega arith) (omega arith)
      ∙ past 406 _ _ (omega arith) (omega arith) ∙ past 407 _ _ (omega arith) (omega arith)
      ∙ past 408 _ _ (omega arith) (omega arith) ∙ past 409 _ _ (omega arith) (omega arith)
      ∙ past 410 _ _ (omega arith) (omega arith) ∙ past 411 _ _ (omega arith) (omega arith)
      ∙ past 412 _ _ (omega arith) (omega arith) ∙ past 413 _ _ (omega arith) (omega arith)
      ∙ past 414 _ _ (omega arith) (omega arith) ∙ past 415 _ _ (omega arith) (omega arith)
      ∙ past 416 _ _ (omega arith) (omega arith) ∙ past 417 _ _ (omega arith) (omega arith)
      ∙ past 418 _ _ (omega arith) (omega arith) ∙ past 421 _ _ (omega arith) (omega arith)
      ∙ past 422 _ _ (omega arith) (omega arith) ∙ past 423 _ _ (omega arith) (omega arith)
      ∙ past 424 _ _ (omega arith) (omega arith) ∙ past 425 _ _ (omega arith) (omega arith)
      ∙ past 426 _ _ (omega arith) (omega arith) ∙ past 428 _ _ (omega arith) (omega arith)
      ∙ past 429 _ _ (omega arith) (omega arith) ∙ past 431 _ _ (omega arith) (omega arith)
      ∙ past 451 _ _ (omega arith) (omega arith) ∙ past 500 _ _ (omega arith) (omega arith)
      ∙ past 501 _ _ (omega arith) (omega arith) ∙ past 502 _ _ (omega arith) (omega arith)
      ∙ past 503 _ _ (omega arith) (omega arith) ∙ past 504 _ _ (omega arith) (omega arith)
      ∙ past 505 _ _ (omega arith) (omega arith) ∙ past 506 _ _ (omega arith) (omega arith)
      ∙ past 507 _ _ (omega arith) (omega arith) ∙ past 508 _ _ (omega arith) (omega arith)
      ∙ past 510 _ _ (omega arith) (omega arith) ∙ past 511 _ _ (omega arith) (omega arith)
