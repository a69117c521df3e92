-- What is made, where an error is only told in other words.
use Rattle.std.proofs.Common.{◌≡◌, ℕ, Ok, Err, IfOk, Result, arith}
use Rattle.std.specs.Result.{IsErr, MatchResult}

pub made : {X E F : Type 0} (P R : X → Type 0) (Q : E → Type 0) → ((x : X) → P x → R x) → (r : Result X E) (m : Result X F) → MatchResult r P Q → MatchResult r (λ x. m ≡ Ok x) (λ _. IsErr m) → IfOk m R
made P R Q so (Ok x) m holds is = rw is (so x holds)
made P R Q so (Err e) (Ok y) holds is = let z : ◌≡◌ {A = ℕ} 0 1 = cc in absurd (omega arith)
made P R Q so (Err e) (Err f) holds is = tt
